-- The session of 01, as an image that is read, written back, accepted, started and run in parts: what each law asks for can be had. Assumes nothing.
use Rattle.std.specs.Prelude.{true, ◌≡◌, List, [], ◌∷◌, ℕ, ◌≤◌, length, Ok}
use Rattle.image.specs.Frames.{frames_of}
use Rattle.storage.specs.Layout.{Storage, laid, laid_in, long_enough}
use Rattle.reader.specs.Reading.{Read}
use Rattle.writer.specs.Writing.{Written}
use Rattle.state.specs.States.{State, state_long}
use Rattle.starter.specs.Start.{begun}
use Rattle.laws.specs.Statements.{Begun, Resumable}

-- a00100, b0020000000000000007, c00100000000, c00c00000100, e001: a line each
unfoldable pub session_image : List ℕ
session_image =
    97 ∷ 48 ∷ 48 ∷ 49 ∷ 48 ∷ 48 ∷ 10
    ∷ 98 ∷ 48 ∷ 48 ∷ 50 ∷ 48 ∷ 48 ∷ 48 ∷ 48 ∷ 48 ∷ 48 ∷ 48 ∷ 48 ∷ 48 ∷ 48 ∷ 48 ∷ 48 ∷ 48 ∷ 48 ∷ 48 ∷ 55 ∷ 10
    ∷ 99 ∷ 48 ∷ 48 ∷ 49 ∷ 48 ∷ 48 ∷ 48 ∷ 48 ∷ 48 ∷ 48 ∷ 48 ∷ 48 ∷ 10
    ∷ 99 ∷ 48 ∷ 48 ∷ 99 ∷ 48 ∷ 48 ∷ 48 ∷ 48 ∷ 48 ∷ 49 ∷ 48 ∷ 48 ∷ 10
    ∷ 101 ∷ 48 ∷ 48 ∷ 49 ∷ 10 ∷ []

-- what reading it leaves in lent storage
unfoldable pub session_in : Storage → Storage
session_in lent = laid_in 1 (frames_of session_image) lent

-- "runs it without arguments": in any storage and state that are long enough it is started
abbrev pub SessionStarts : Type 0
SessionStarts =
    (lent : Storage) (s : State) → long_enough lent ≡ true → state_long s ≡ true
    → Begun (session_in lent) [] [] s (begun (session_in lent).table [] [] s)

-- the reader accepts it, and the writer writes it back: what the round trip asks for
abbrev pub SessionReads : Type 0
SessionReads = (lent : Storage) → long_enough lent ≡ true → Read session_image (Ok 1) lent (session_in lent)

abbrev pub SessionWritten : Type 0
SessionWritten =
    (lent : Storage) (out : List ℕ) → long_enough lent ≡ true → length session_image ≤ length out
    → Written (session_in lent) (Ok (length session_image)) out (laid session_image out)

-- after a run on any budget it can be run on: what a + b of any image asks for
abbrev pub SessionResumes : Type 0
SessionResumes =
    (lent : Storage) (s : State) → long_enough lent ≡ true → state_long s ≡ true
    → (a b : ℕ) → Resumable (session_in lent) a b (begun (session_in lent).table [] [] s)

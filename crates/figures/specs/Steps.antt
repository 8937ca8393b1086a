-- The run of digits as the code has it: one record, of which the two values stop at 2 ^ 63 + 1, above every integer and every exponent that matters.
-- proofs/TallyLaws shows that nothing is lost by that. Assumes nothing.
use Rattle.std.specs.Prelude.{ℕ, ◌+◌, ◌-◌, ◌*◌, ◌^◌, min, Bool, cond, List, [], ◌∷◌, ◌==◌, Option, None}
use Rattle.figures.specs.Figures.{pointed}
use Rattle.figures.specs.declared.Figure.{Figure}
use Rattle.figures.specs.declared.Tally.{Tally}

abbrev pub stop_at : ℕ
stop_at = 2 ^ 63 + 1

abbrev pub empty_tally : Tally
empty_tally = record { value = 0; kept = 0; zeros = 0; count = 0 }

-- one digit more
unfoldable pub one_more : Tally → ℕ → Tally
one_more t c = record {
  value = min (t.value * 10 + c) stop_at;
  kept = cond (c == 0) t.kept (min (t.value * 10 + c) stop_at);
  zeros = cond (c == 0) (t.zeros + 1) 0;
  count = t.count + 1;
}

unfoldable pub tally : Tally → List ℕ → Tally
unfolding one_more
tally t [] = t
tally t (c ∷ r) = tally (one_more t c) r

-- the digits behind the point, after those before it
abbrev pub behind_point : Bool → Tally → Tally → List ℕ → Option Figure
behind_point s t u after = cond (u.count == 0) None (pointed s u.kept u.zeros (u.count - t.count) after)

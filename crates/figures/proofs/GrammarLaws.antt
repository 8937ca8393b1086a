-- For readers: the grammar and the function say the same of every text, and what follows from that; specs/Statements has the statements. Assumes nothing.
use Rattle.std.proofs.Common.{◌≡◌, ℕ, Bool, List, pos, refl, Option, Some, None}
use lib.Ieee.{Float}
use Rattle.integer.specs.Wrap.{wrap}
use Rattle.integer.proofs.WrapLaws.{wrap_in_range, wrap_congruent}
use Rattle.number.specs.Exact.{signed}
use Rattle.figures.specs.Decimal.{decimal}
use Rattle.figures.specs.Figures.{figure_of}
use Rattle.figures.specs.Grammar.{Literal, decimal_integer, hex_integer, FigureText, Denotes, is_integer, hex_wraps, zero_fits, is_nearest, Reads}
use Rattle.figures.specs.Statements.{ReadSo, NothingElse, Outside, OutsideNone, IntegerStays, HexModulo, ReadNearest, FractionNearest}
use Rattle.figures.specs.declared.Figure.{Figure}
use Rattle.figures.specs.declared.Figure.TheVariants.{Integer, Number}
use Rattle.figures.proofs.NearestLaws.{decimal-closest}
use Rattle.figures.proofs.ValueLaws.{yields_denoted, denotes_yielded}
use Rattle.figures.proofs.FormLaws.{read-text, Something, TextShape, figure_shape}

-- ---- both say the same

pub reads_figure : ReadSo
reads_figure t f R = yields_denoted R.figure (figure_of t) (read-text R.form)

pub figure_reads : NothingElse
figure_reads t f e = made (figure_shape t some)
  where
    some : Something (figure_of t)
    some h = absurd (cc)

    made : TextShape t → Reads t f
    made T = record { sign = T.sign; literal = T.literal; form = T.form; figure = denotes_yielded T.sign T.literal (figure_of t) (read-text T.form) f e }

-- ---- what follows

pub outside-none : OutsideNone
outside-none t = (λ o. go o (figure_of t) refl, λ e f R. let k = reads_figure t f R in absurd (cc))
  where
    go : Outside t → (g : Option Figure) → figure_of t ≡ g → figure_of t ≡ None
    go o (Some f) e = absurd (o f (figure_reads t f e))
    go o None e = e

pub integer_string : IntegerStays
integer_string t s v F h = reads_figure t (Integer (signed s v)) (record { sign = s; literal = decimal_integer v; form = F; figure = is_integer h })

pub hex_string : HexModulo
hex_string t s v F = record {
  x = wrap (signed s v);
  times = (wrap_congruent (signed s v)).0;
  read_as = reads_figure t (Integer (wrap (signed s v))) (record { sign = s; literal = hex_integer v; form = F; figure = hex_wraps });
  not_below = (wrap_in_range (signed s v)).0;
  not_past = (wrap_in_range (signed s v)).1;
  away = (wrap_congruent (signed s v)).1;
}

nearest_of : {s : Bool} {l : Literal} {f : Figure} → Denotes s l f → (t : List ℕ) (x : Float) → FigureText t s l → f ≡ Number x → (x ≡ decimal s 0 (pos 0) → ⊥) → ReadNearest t x
nearest_of (is_integer h) t x F e n = absurd (cc)
nearest_of hex_wraps t x F e n = absurd (cc)
nearest_of (zero_fits b h) t x F e n = absurd (n (cc))
nearest_of {s} {l} (is_nearest {d = d} {e = g} b I) t x F e n =
    let k : x ≡ decimal s d g = cc in
    record { sign = s; literal = l; d = d; e = g; form = F; in_set = I; rounded = k; closest = rw k (decimal-closest s d g I.fifteen_digits I.near_power) }

pub read-closest : FractionNearest
read-closest t x R n = nearest_of R.figure t x R.form refl (n R.sign)

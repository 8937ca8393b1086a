-- Bytes put one after the other: two puts in a row are one, and a loop's invariant, that what is left, put from here, gives the whole. Assumes nothing.
use Prim.Native.Nat.{ℕ, suc, ◌+◌}
use native.Mathlib.Omega.{arith}
use native.Mathlib.Nat.{add-zero}
use mathlib.Core.Path.{◌≡◌, refl, sym, ap, ◌∙◌}
use mathlib.Core.List.{List, [], ◌∷◌, ◌++◌}
use lib.ListN.{length, set, length-append}
use lib.Seq.{sets, length-sets}
use Rattle.writer.specs.Putting.{Room, Put}

pub sets-append : (l : List ℕ) (i : ℕ) (xs ys : List ℕ) → sets l i (xs ++ ys) ≡ sets (sets l i xs) (i + length xs) ys
sets-append l i [] ys = rw (add-zero i)
sets-append l i (x ∷ xs) ys =
    let e : i + suc (length xs) ≡ suc i + length xs = omega arith in
    rw e (sets-append (set l i x) (suc i) xs ys)

pub put-length : {l l' xs : List ℕ} {at r : ℕ} → Put l at xs r l' → length l' ≡ length l
put-length {l} {l'} {xs} {at} {r} p = ap length p.left ∙ length-sets l at xs

pub put_then :
    {l m n xs ys : List ℕ} {at to r : ℕ} → Put l at xs to m → Put m to ys r n → Put l at (xs ++ ys) r n
put_then {l} {m} {n} {xs} {ys} {at} {to} {r} p q =
    record {
      next = omega (arith, p.next, q.next, length-append xs ys);
      left = q.left ∙ rw (p.left, p.next) (sym (sets-append l at xs ys));
    }

-- ---- room for two, one after the other

module _ (l : List ℕ) (at : ℕ) (xs ys : List ℕ) (room : Room l at (xs ++ ys)) where
  pub room-first : Room l at xs
  room-first = omega (arith, length-append xs ys)

  pub room-then : (m : List ℕ) (to : ℕ) → Put l at xs to m → Room m to ys
  room-then m to p = omega (arith, p.next, put-length p, length-append xs ys)

-- ---- a loop that puts `bytes` from `at` on: so far the output is `out`, and `rest` is still to be put from `to` on

pub record Left (l : List ℕ) (at : ℕ) (bytes out : List ℕ) (to : ℕ) (rest : List ℕ) : Type 0 where
  pub place : to + length rest ≡ at + length bytes
  pub same : length out ≡ length l
  pub whole : sets out to rest ≡ sets l at bytes

-- a turn puts `xs` of it
pub record Cut (rest xs rest' : List ℕ) : Type 0 where
  pub parts : rest ≡ xs ++ rest'

pub left-start : (l : List ℕ) (at : ℕ) (bytes rest : List ℕ) → rest ≡ bytes → Left l at bytes l at rest
left-start l at bytes rest e = record { place = rw e; same = refl; whole = rw e }

module _ {l bytes out rest : List ℕ} {at to : ℕ} (h : Left l at bytes out to rest) where
  pub left-room : {xs rest' : List ℕ} → Room l at bytes → Cut rest xs rest' → Room out to xs
  left-room {xs} {rest'} r e =
      omega (arith, h.place, h.same, ap length e.parts, length-append xs rest')

  pub left-more :
      {xs rest' out' : List ℕ} {to' : ℕ} → Cut rest xs rest' → Put out to xs to' out' → Left l at bytes out' to' rest'
  left-more {xs} {rest'} {out'} {to'} e p =
      record {
        place = omega (arith, h.place, p.next, ap length e.parts, length-append xs rest');
        same = put-length p ∙ h.same;
        whole = rw (p.left, p.next) (sym (sets-append out to xs rest')) ∙ rw e.parts at h.whole;
      }

  pub left-done : rest ≡ [] → Put l at bytes to out
  left-done e = record { next = omega (arith, h.place, ap length e); left = rw e at h.whole }

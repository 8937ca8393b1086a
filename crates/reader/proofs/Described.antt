-- Descriptors in the table: put one after the other by an accepted image's frames they stand as the layout has them, behind all entries, and the table then tells them.
-- Assumes nothing.
use Rattle.std.proofs.Common.{◌≡◌, ℕ, suc, ◌+◌, ◌-◌, ◌/◌, ◌<◌, ◌≤◌, true, List, [], ◌∷◌, length, get_or, take, set, sym, refl, ap, ◌∙◌, add-zero, zero-add, arith, length-set, get_or-take, get_or-set_same, set-set, eq-eqb}
use lib.Seq.{sets, set_comm, take-set-le, length-sets}
use Rattle.image.specs.Frames.{F, opens, const, str, code, ends, bad, desc}
use Rattle.image.specs.Judge.{start}
use Rattle.image.specs.declared.Counts.{Counts}
use Rattle.image.specs.declared.Step.TheVariants.{On, Done}
use Rattle.storage.specs.Fields.{entry_place, descriptors_place, table_slots}
use Rattle.storage.specs.Layout.{entry_of, descriptor_word, descriptors_ahead, descriptor_block, described}
use Rattle.storage.specs.Stored.{holds_at, describes}
use Rattle.storage.proofs.Runs.{Runs, last, next, Told, opened, word, text, instruction, ended, told_as, none_ahead}
use Rattle.storage.proofs.Runs as runs
use Rattle.reader.specs.Steps.{descriptor_put, desc_put, desc_top, desc_puts}

-- ---- what the frames put is what the layout says

-- prototype q has d descriptors so far, and these are to come
abbrev finish : ℕ → ℕ → List ℕ → List ℕ → List ℕ
finish q d ws l = sets (set l (descriptors_place q) (d + length ws)) (descriptors_place q + (1 + d)) ws

finish-none : (q d : ℕ) (l : List ℕ) → set l (descriptors_place q) d ≡ l → finish q d [] l ≡ l
finish-none q d l e = rw (add-zero d) e

finish-more : (q d w : ℕ) (ws l : List ℕ) → finish q (d + 1) ws (descriptor_put q d w l) ≡ finish q d (w ∷ ws) l
finish-more q d w ws l =
    let p = descriptors_place q in
    let a : d + 1 + length ws ≡ d + suc (length ws) = omega arith in
    let b : p + (1 + (d + 1)) ≡ suc (p + (1 + d)) = omega arith in
    rw (a, b, set-set (set l (p + (1 + d)) w) p (d + 1) (d + suc (length ws)), set_comm l (p + (1 + d)) p w (d + suc (length ws)) (λ e. omega arith))

finish-start : (q : ℕ) (ws l : List ℕ) → finish q 0 ws (set l (descriptors_place q) 0) ≡ sets l (descriptors_place q) (length ws ∷ ws)
finish-start q ws l =
    let p = descriptors_place q in
    let b : p + (1 + 0) ≡ suc p = omega arith in
    rw (b, zero-add (length ws), set-set l p 0 (length ws))

-- q + 1 prototypes are opened, and the last one's number of descriptors is stored
abbrev Puts : Counts → List F → Type 0
Puts st fs =
    (q : ℕ) → st.protos ≡ q + 1 → (l : List ℕ) → set l (descriptors_place q) st.descs ≡ l
    → desc_puts (entry_place (q + 1)) st.descs fs l ≡ described (q + 1) fs (finish q st.descs (descriptors_ahead fs) l)

puts-last : {st : Counts} {f : F} → Told st f Done → Puts st (f ∷ [])
unfolding desc_puts desc_put described descriptors_ahead
puts-last {st} (ended e) q p l k = sym (finish-none q st.descs l k)

puts-next : {st u : Counts} {n : ℕ} {f : F} {fs : List F} → Told st f (On u) → Runs u n fs → Puts u fs → Puts st (f ∷ fs)
unfolding desc_puts desc_put desc_top described descriptors_ahead entry_of
puts-next {st} {fs = fs} (opened a) h ih q p l k =
    let x : entry_place (q + 1) + 4 ≡ entry_place (q + 1 + 1) = omega arith in
    let y : entry_place (q + 1) / 4 ≡ q + 1 = omega arith in
    rw (finish-none q st.descs l k, x, y, ← finish-start (q + 1) (descriptors_ahead fs) l)
    (ih (q + 1) (omega arith) (set l (descriptors_place (q + 1)) 0) (set-set l (descriptors_place (q + 1)) 0 0))
puts-next (word a b) h ih q p l k =
    rw (add-zero (entry_place (q + 1))) (ih q p l k ∙ rw (none_ahead h (omega arith)))
puts-next (text a b) h ih q p l k =
    rw (add-zero (entry_place (q + 1))) (ih q p l k ∙ rw (none_ahead h (omega arith)))
puts-next (instruction a) h ih q p l k =
    rw (add-zero (entry_place (q + 1))) (ih q p l k ∙ rw (none_ahead h (omega arith)))
puts-next {st} {f = desc v m} {fs = fs} (runs.described a b c d) h ih q p l k =
    let y : entry_place (q + 1) / 4 - 1 ≡ q = omega arith in
    let w = descriptor_word v m in
    rw (add-zero (entry_place (q + 1)), y, ← finish-more q st.descs w (descriptors_ahead fs) l)
    (ih q p (descriptor_put q st.descs w l) (set-set (set l (descriptors_place q + (1 + st.descs)) w) (descriptors_place q) (st.descs + 1) (st.descs + 1)))

puts : {st : Counts} {n : ℕ} {fs : List F} → Runs st n fs → Puts st fs
puts (last r e) = puts-last (told_as r)
puts (next r h) = puts-next (told_as r) h (puts h)

-- before the first prototype only that one or e0 may come
first : {st u : Counts} {n : ℕ} {f : F} {fs : List F} → Told st f (On u) → Runs u n fs → st.protos ≡ 0 → (l : List ℕ)
    → desc_puts 1 0 (f ∷ fs) l ≡ described 0 (f ∷ fs) l
unfolding desc_puts desc_put desc_top described entry_of
first {fs = fs} (opened a) h z l =
    rw (← finish-start 0 (descriptors_ahead fs) l) (puts h 0 (omega arith) (set l (descriptors_place 0) 0) (set-set l (descriptors_place 0) 0 0))
first (word a b) h z l = absurd (omega arith)
first (text a b) h z l = absurd (omega arith)
first (instruction a) h z l = absurd (omega arith)
first (runs.described a b c d) h z l = absurd (omega arith)

only : {st : Counts} {f : F} → Told st f Done → (l : List ℕ) → desc_puts 1 0 (f ∷ []) l ≡ described 0 (f ∷ []) l
unfolding desc_puts desc_put desc_top described
only (ended e) l = refl

all-put : {st : Counts} {n : ℕ} {fs : List F} → Runs st n fs → st.protos ≡ 0 → (l : List ℕ) → desc_puts 1 0 fs l ≡ described 0 fs l
all-put (last r e) z l = only (told_as r) l
all-put (next r h) z l = first (told_as r) h z l

pub puts-described : {n : ℕ} {fs : List F} → Runs start n fs → (l : List ℕ) → desc_puts 1 0 fs l ≡ described 0 fs l
puts-described h l = all-put h refl l

-- ---- the entries in front stay

take-sets : (m : ℕ) (l : List ℕ) (i : ℕ) (xs : List ℕ) → m ≤ i → take m (sets l i xs) ≡ take m l
take-sets m l i [] h = refl
take-sets m l i (x ∷ xs) h = take-sets m (set l i x) (suc i) xs (omega arith) ∙ take-set-le m l i x h

pub described-front : (m q : ℕ) (fs : List F) (l : List ℕ) → m ≤ descriptors_place q → take m (described q fs l) ≡ take m l
unfolding described
described-front m q [] l h = refl
described-front m q (opens r p ∷ fs) l h =
    described-front m (q + 1) fs (sets l (descriptors_place q) (descriptor_block fs)) (omega arith)
    ∙ take-sets m l (descriptors_place q) (descriptor_block fs) h
described-front m q (const k w ∷ fs) l h = described-front m q fs l h
described-front m q (str x ∷ fs) l h = described-front m q fs l h
described-front m q (code w ∷ fs) l h = described-front m q fs l h
described-front m q (ends n ∷ fs) l h = described-front m q fs l h
described-front m q (bad k ∷ fs) l h = described-front m q fs l h
described-front m q (desc k n ∷ fs) l h = described-front m q fs l h

pub described-length : (q : ℕ) (fs : List F) (l : List ℕ) → length (described q fs l) ≡ length l
unfolding described
described-length q [] l = refl
described-length q (opens r p ∷ fs) l =
    described-length (q + 1) fs (sets l (descriptors_place q) (descriptor_block fs)) ∙ length-sets l (descriptors_place q) (descriptor_block fs)
described-length q (const k w ∷ fs) l = described-length q fs l
described-length q (str x ∷ fs) l = described-length q fs l
described-length q (code w ∷ fs) l = described-length q fs l
described-length q (ends n ∷ fs) l = described-length q fs l
described-length q (bad k ∷ fs) l = described-length q fs l
described-length q (desc k n ∷ fs) l = described-length q fs l

-- ---- the table tells the descriptors

-- two lists that begin alike have the same there
front-cell : (l l' : List ℕ) (i : ℕ) → take (suc i) l' ≡ take (suc i) l → get_or l' i 0 ≡ get_or l i 0
front-cell l l' i e =
    sym (get_or-take (suc i) l' i 0 (omega arith)) ∙ ap (λ (u : List ℕ). get_or u i 0) e ∙ get_or-take (suc i) l i 0 (omega arith)

holds_kept : (l l' : List ℕ) (p : ℕ) (xs : List ℕ) → ((i : ℕ) → i < p + length xs → get_or l' i 0 ≡ get_or l i 0) → holds_at l' p xs ≡ holds_at l p xs
unfolding holds_at
holds_kept l l' p [] e = refl
holds_kept l l' p (x ∷ xs) e = rw (e p (omega arith), holds_kept l l' (p + 1) xs (λ i h. e i (omega arith)))

holds-sets : (l : List ℕ) (p : ℕ) (xs : List ℕ) → p + length xs ≤ length l → holds_at (sets l p xs) p xs ≡ true
unfolding holds_at
holds-sets l p [] h = refl
holds-sets l p (x ∷ xs) h =
    let m = sets (set l p x) (suc p) xs in
    let a : get_or m p 0 ≡ x = front-cell (set l p x) m p (take-sets (suc p) (set l p x) (suc p) xs (omega arith)) ∙ get_or-set_same l p x 0 (omega arith) in
    let b : p + 1 ≡ suc p = omega arith in
    simp (eq-eqb (get_or m p 0) x a, b, holds-sets (set l p x) (suc p) xs (omega (arith, length-set l p x)))

-- a prototype has at most 8
few-next : {st u : Counts} {f : F} → Told st f (On u) → st.descs ≤ 8 → u.descs ≤ 8
few-next (opened a) h = omega arith
few-next (word a b) h = h
few-next (text a b) h = h
few-next (instruction a) h = h
few-next (runs.described a b c d) h = omega arith

ahead-next : {st u : Counts} {f : F} (fs : List F) → Told st f (On u) → st.descs ≤ 8 → u.descs + length (descriptors_ahead fs) ≤ 8
    → st.descs + length (descriptors_ahead (f ∷ fs)) ≤ 8
unfolding descriptors_ahead
ahead-next fs (opened a) h i = omega arith
ahead-next fs (word a b) h i = omega arith
ahead-next fs (text a b) h i = omega arith
ahead-next fs (instruction a) h i = omega arith
ahead-next fs (runs.described a b c d) h i = omega arith

ahead-last : {st : Counts} {f : F} → Told st f Done → st.descs ≤ 8 → st.descs + length (descriptors_ahead (f ∷ [])) ≤ 8
unfolding descriptors_ahead
ahead-last (ended e) h = omega arith

few : {st : Counts} {n : ℕ} {fs : List F} → Runs st n fs → st.descs ≤ 8 → st.descs + length (descriptors_ahead fs) ≤ 8
few (last r e) h = ahead-last (told_as r) h
few (next {fs = fs} r g) h = let t = told_as r in ahead-next fs t h (few g (few-next t h))

-- of a run from these counts
abbrev Tells : Counts → List F → Type 0
Tells st fs = (l : List ℕ) → table_slots ≤ length l → describes st.protos fs (described st.protos fs l) ≡ true

tells-last : {st : Counts} {f : F} → Told st f Done → Tells st (f ∷ [])
unfolding describes
tells-last (ended e) l h = refl

tells-next : {st u : Counts} {f : F} (fs : List F) → Told st f (On u) → u.descs + length (descriptors_ahead fs) ≤ 8 → Tells u fs → Tells st (f ∷ fs)
unfolding describes described
tells-next {st} fs (opened a) few ih l h =
    let q = st.protos in
    let xs = descriptor_block fs in
    let m = sets l (descriptors_place q) xs in
    let kept = holds_kept m (described (q + 1) fs m) (descriptors_place q) xs (λ i g. front-cell m (described (q + 1) fs m) i (described-front (suc i) (q + 1) fs m (omega arith))) in
    let stored = holds-sets l (descriptors_place q) xs (omega arith) in
    simp (kept ∙ stored, ih m (omega (arith, length-sets l (descriptors_place q) xs)))
tells-next fs (word a b) few ih l h = ih l h
tells-next fs (text a b) few ih l h = ih l h
tells-next fs (instruction a) few ih l h = ih l h
tells-next fs (runs.described a b c d) few ih l h = ih l h

tells : {st : Counts} {n : ℕ} {fs : List F} → Runs st n fs → st.descs ≤ 8 → Tells st fs
tells (last r e) o = tells-last (told_as r)
tells (next {fs = fs} r h) o = let t = told_as r in let v = few-next t o in tells-next fs t (few h v) (tells h v)

pub described-tells : {n : ℕ} {fs : List F} → Runs start n fs → (l : List ℕ) → table_slots ≤ length l → describes 0 fs (described 0 fs l) ≡ true
described-tells h l g = tells h (omega arith) l g

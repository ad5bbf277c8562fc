-- A loop that puts the texts of a list's elements, one behind the other.
use mathlib.Core.Path.{◌≡◌, sym, ap, ◌∙◌}
use mathlib.Core.List.{List, [], ◌∷◌, ◌++◌, map, flatten, map-append, append_assoc}
use Prim.Native.Nat.{ℕ, ◌+◌, ◌≤◌, ◌<◌}
use native.Mathlib.Omega.{arith}
use lib.ListN.{length, get_or, take, drop, length-append, take-append-drop}
use Rattle.theory.proofs.Lists.{take_more}
use Rattle.theory.proofs.Flatten.{flatten-append, flatten_nil, flatten_one}

-- the texts of a list's elements, one behind the other
abbrev pub texts : (ℕ → List ℕ) → List ℕ → List ℕ
texts g l = flatten (map g l)

module _ (g : ℕ → List ℕ) where
  -- of no element
  pub texts-none : texts g [] ≡ []
  texts-none = flatten_nil

  -- of one element
  pub texts_one : (x : ℕ) → texts g (x ∷ []) ≡ g x
  texts_one x = flatten_one (g x)

  -- of two lists
  pub texts-append : (xs ys : List ℕ) → texts g (xs ++ ys) ≡ texts g xs ++ texts g ys
  texts-append xs ys = ap flatten (map-append g xs ys) ∙ flatten-append (map g xs) (map g ys)

  -- of one element more
  texts_more : (l : List ℕ) (i : ℕ) → i < length l → texts g (take (i + 1) l) ≡ texts g (take i l) ++ g (get_or l i 0)
  texts_more l i h = rw (take_more l i 0 h) (texts-append (take i l) (get_or l i 0 ∷ []) ∙ ap (λ (t : List ℕ). texts g (take i l) ++ t) (texts_one (get_or l i 0)))

  -- the texts of the first elements are no longer than all
  texts-front : (l : List ℕ) (i : ℕ) → length (texts g (take i l)) ≤ length (texts g l)
  texts-front l i =
      let e : length (texts g l) ≡ length (texts g (take i l)) + length (texts g (drop i l)) =
      ap (λ (k : List ℕ). length (texts g k)) (sym (take-append-drop i l)) ∙ ap length (texts-append (take i l) (drop i l)) ∙ length-append (texts g (take i l)) (texts g (drop i l)) in
      omega (arith, e)

module _ (g : ℕ → List ℕ) (l before : List ℕ) {i : ℕ} {text : List ℕ} (put : text ≡ before ++ texts g (take i l)) (h : i < length l) where
  -- there is room for the next
  pub texts_room : {most : ℕ} → length before + length (texts g l) ≤ most → length text + length (g (get_or l i 0)) ≤ most
  texts_room room =
      omega (
        arith,
        ap length put,
        length-append before (texts g (take i l)),
        texts-front g l (i + 1),
        ap length (texts_more g l i h),
        length-append (texts g (take i l)) (g (get_or l i 0)),
      )

  -- the next was put
  pub texts_put : text ++ g (get_or l i 0) ≡ before ++ texts g (take (i + 1) l)
  texts_put = rw (put, texts_more g l i h) (append_assoc before (texts g (take i l)) (g (get_or l i 0)))

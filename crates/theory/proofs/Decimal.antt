-- Decimal digits: room for more of them than the number's own size changes nothing.
use mathlib.Core.Path.{◌≡◌, refl, sym, ap, ◌∙◌}
use mathlib.Core.Bool.{Bool, true, false, cond}
use mathlib.Core.List.{List, [], ◌∷◌, ◌++◌}
use Prim.Native.Nat.{ℕ, zero, suc, ◌+◌, ◌/◌, ◌%◌, ◌≤◌}
use native.Mathlib.Omega.{arith}
use lib.Dec.{ltb}
use borrow.Author.Tests.{ltb-false}
use Rattle.plan.specs.Listing.{decimal_up_to, decimal}
use Rattle.plan.specs.Enough.{DecimalWhole}

-- 0 has one digit
zero_digit : (most : ℕ) → decimal_up_to most 0 ≡ 48 ∷ []
unfolding decimal_up_to
zero_digit zero = refl
zero_digit (suc most) = refl

-- two counts that are large enough give the same digits: all but the last are the digits of a tenth, which is smaller
same_digits : (most more x : ℕ) → x ≤ most → x ≤ more → decimal_up_to most x ≡ decimal_up_to more x
unfolding decimal_up_to
same_digits zero more x h k = let e : x ≡ 0 = omega arith in rw e (zero_digit zero ∙ sym (zero_digit more))
same_digits (suc most) zero x h k = let e : x ≡ 0 = omega arith in rw e (zero_digit (suc most) ∙ sym (zero_digit zero))
same_digits (suc most) (suc more) x h k = go (ltb x 10) refl (same_digits most more (x / 10))
  where
    go : (b : Bool) → ltb x 10 ≡ b → (x / 10 ≤ most → x / 10 ≤ more → decimal_up_to most (x / 10) ≡ decimal_up_to more (x / 10))
        → cond b ((48 + x) ∷ []) (decimal_up_to most (x / 10) ++ ((48 + x % 10) ∷ [])) ≡ cond b ((48 + x) ∷ []) (decimal_up_to more (x / 10) ++ ((48 + x % 10) ∷ []))
    go true e ih = refl
    go false e ih = ap (λ (l : List ℕ). l ++ ((48 + x % 10) ∷ [])) (ih (omega (arith, ltb-false x 10 e)) (omega (arith, ltb-false x 10 e)))

-- no digit is left out: room for more of them changes nothing
pub decimal-whole : DecimalWhole
unfolding decimal
decimal-whole x most h = same_digits most x x h (omega arith)

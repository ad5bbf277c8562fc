-- `dissection::parts::block_end` meets its contract: the places behind the first that begin no block are counted.
use mathlib.Core.Path.{◌≡◌, refl, sym, ap, ◌∙◌}
use mathlib.Core.Bool.{Bool, cond}
use mathlib.Core.List.{List, [], ◌∷◌}
use Prim.Native.Nat.{ℕ, suc, ◌+◌, ◌-◌, ◌≤◌}
use native.Mathlib.Numerals.{one-add}
use native.Mathlib.Omega.{arith}
use lib.Dec.{eqb}
use lib.ListN.{length, take, drop}
use Rattle.std.proofs.Common.{rules, tests}
use Rattle.std.specs.List.{prefix_len}
use Rattle.std.proofs.lemmas.List.{drop-take}
use Rattle.std.proofs.lemmas.List.Folds.{length-prefix_len}
use Rattle.std.proofs.lemmas.Iterator.{YieldsList-from_slice}
use Rattle.std.proofs.lemmas.Iterator.Consumers.{count_from_yields_List}
use Rattle.std.proofs.lemmas.Iterator.Search.{YieldsList-from_take_while}
use Rattle.dissection.specs.Blocks.{inner, leading}
use Rattle.dissection.proofs.parts.block_end.Goals as goal

-- whether no block begins at a place with this head
abbrev within : ℕ → Bool
within h = eqb h inner

-- the places in front that begin no block
leading_is : (hs : List ℕ) → prefix_len within hs ≡ leading hs
leading_is [] = refl
leading_is (h ∷ hs) = ap (λ (k : ℕ). cond (within h) k 0) (one-add (prefix_len within hs) ∙ ap suc (leading_is hs))

-- the heads behind place a
behind : (a n : ℕ) (hs : List ℕ) → a ≤ n → take (n - a) (drop a hs) ≡ drop a (take n hs)
behind a n hs le =
    let all : a + (n - a) ≡ n = omega arith in
    sym (drop-take a (n - a) hs) ∙ ap (λ (k : ℕ). drop a (take k hs)) all

pub returns : goal.returns
returns c =
    let hs : List ℕ = take (c.args.n - (c.args.at + 1)) (drop (c.args.at + 1) c.args.heads.now) in
    let counted : c.count.result ≡ length (take (prefix_len within hs) hs) = count_from_yields_List c.take_while.result c.count.result c.count.ensures.ran (YieldsList-from_take_while _ within (YieldsList-from_slice hs (cc)) c.take_while.ensures.closure c.take_while.ensures.done (λ x b q k. search (rules, tests))) in
    ap (λ (k : ℕ). c.args.at + 1 + k) (counted ∙ length-prefix_len within hs ∙ leading_is hs ∙ ap leading (behind (c.args.at + 1) c.args.n c.args.heads.now (omega (arith, c.requires.0))))

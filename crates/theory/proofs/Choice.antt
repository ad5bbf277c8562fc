-- George and Liu's choice, under any sensible settings, takes a non-empty part from its region.
use mathlib.Core.Path.{◌≡◌, refl, sym, ap, ◌∙◌}
use mathlib.Core.Logic.{inl, inr}
use mathlib.Core.Bool.{Bool, true, ◌&&◌}
use mathlib.Core.List.{List, []}
use Prim.Native.Nat.{ℕ, ◌+◌, ◌-◌, suc, ◌<◌}
use native.Mathlib.Numerals.{add-one}
use native.Mathlib.Omega.{arith}
use lib.ListN.{length, get_or}
use borrow.Author.Tests.{leb-false}
use Rattle.plan.specs.Lists.{exists, keep, is_in, without}
use Rattle.plan.specs.Mesh.{Mesh, adjacent}
use Rattle.plan.specs.Levels.{Graph, levels, eccentricity}
use Rattle.plan.specs.Choice.{george_liu, root_of, stays_whole, cut_level, separator, numbering, Settings, standard, choose_part}
use Rattle.theory.specs.Counting.{count, Alike}
use Rattle.theory.specs.Regions.{Takes}
use Rattle.theory.specs.Sensible.{Sensible}
use Rattle.theory.proofs.Bools.{tested, refuted, iff_eq, cond_true, cond_false}
use Rattle.theory.proofs.Lists.{is_in-head, is_in-get_or, exists-is_in, is_in-exists, of_keep, keep-keep, Kept, kept-own, keep_all, without-same}
use Rattle.theory.proofs.Counting.{count-all, count_less, exists-count, same-members, same_length, count-part}
use Rattle.theory.proofs.LevelNumbers.{level-first, level-kept, level-some, level_near}
use Rattle.theory.proofs.LevelSets.{levels_disjoint}

-- a separator at a level strictly between the first and the last is kept from the region, and has a node
module _ (edge : Graph) (region : List ℕ) (root : ℕ) where
  abbrev ls : List (List ℕ)
  ls = levels edge region root

  pub separator-kept : (j : ℕ) → 0 < j → j < length ls → Kept region (separator edge ls j)
  unfolding separator
  separator-kept j p h =
      let k : Kept region (get_or ls j []) = level-kept edge region root j p h in
      let meets : ℕ → Bool = λ v. exists (edge v) (get_or ls (j + 1) []) in
      record { test = λ v. k.test v && meets v; same = ap (keep meets) k.same ∙ keep-keep meets k.test region }

  separator-some : (j : ℕ) → suc j < length ls → 0 < length (separator edge ls j)
  unfolding separator
  separator-some j h =
      let next : List ℕ = get_or ls (suc j) [] in
      let v : ℕ = get_or next 0 0 in
      let hv : is_in v next ≡ true = is_in-get_or next 0 0 (level-some edge region root (suc j) h) in
      let u = exists-is_in (λ u. edge u v) (get_or ls j []) (level_near edge region root j h v hv) in
      rw add-one
      (exists-count (λ w. exists (edge w) next) (get_or ls j [])
      (is_in-exists (λ w. exists (edge w) next) (get_or ls j []) u.0 u.1 (is_in-exists (edge u.0) next v hv u.2)))

  -- and it is shorter than the region: the root is left
  pub separator-less : (j : ℕ) → 0 < j → j < length ls → is_in root region ≡ true → length (separator edge ls j) < length region
  separator-less j p h inside =
      let s : List ℕ = separator edge ls j in
      omega (
        arith,
        ap length (kept-own region s (separator-kept j p h)),
        count-all region,
        count_less (λ v. is_in v s) (λ v. true) root region (λ v t. refl) inside refl (refuted (is_in root s) outside),
      )
    where
      outside : is_in root (separator edge ls j) ≡ true → ⊥
      outside t =
          omega (
            arith,
            p,
            levels_disjoint edge region root 0 j root (omega (arith, h)) h
                (ap (is_in root) (level-first edge region root) ∙ is_in-head root [])
                (of_keep (λ v. exists (edge v) (get_or ls (j + 1) [])) (get_or ls j []) root (unfold separator in t)).0,
          )

-- a part that counts like one that is kept from a region makes up the region with what is left
part-rest : (r s part : List ℕ) → Kept r s → Alike part s → (p : ℕ → Bool) → count p part + count p (without part r) ≡ count p r
part-rest r s part k same p =
    rw (same p, without-same part s r (λ x. iff_eq _ _ (same-members part s same x) (same-members s part (λ q. sym (same q)) x)))
    (rw k.same (count-part p k.test r))

module _ (settings : Settings) (sensible : Sensible settings) (m : Mesh) where
  -- the whole region, or a separator renumbered
  record Chosen (r part : List ℕ) : Type 0 where
    source : List ℕ
    kept : Kept r source
    same : Alike part source
    some : 0 < length source

  chosen : (r : List ℕ) → 0 < length r → Chosen r (choose_part settings m r)
  unfolding choose_part eccentricity
  chosen r h =
      let root : ℕ = root_of m r in
      let all : List (List ℕ) = levels (adjacent m) r root in
      let l : ℕ = length all - 1 in
      let s : List ℕ = separator (adjacent m) all (settings.level l) in
      elim (tested (settings.whole r l)) [
        | inl t ↦ rw (cond_true (settings.whole r l) r (settings.numbered s) t)
            (record { source = r; kept = record { test = λ v. true; same = sym (keep_all r) }; same = λ p. refl; some = h })
        | inr t ↦
            let b = sensible.between r l t in
            rw (cond_false (settings.whole r l) r (settings.numbered s) t)
            (record {
              source = s;
              kept = separator-kept (adjacent m) r root (settings.level l) b.0 (omega arith);
              same = sensible.reorders s;
              some = separator-some (adjacent m) r root (settings.level l) (omega arith);
            })
      ]

  -- a choice by sensible settings takes a non-empty part from each region
  pub choose_takes : Takes (adjacent m) (choose_part settings m)
  choose_takes = record {
    some = λ r h. let c = chosen r h.some in omega (arith, same_length (choose_part settings m r) c.source c.same, c.some);
    rest = λ r h p. let c = chosen r h.some in part-rest r c.source (choose_part settings m r) c.kept c.same p;
  }

-- document 01's settings are sensible
pub standard_sensible : Sensible standard
unfolding standard stays_whole cut_level numbering
standard_sensible = record {
  between = λ r l t. let two : 1 < l = leb-false l 1 t in omega arith;
  reorders = λ nodes p. refl;
}

-- so George and Liu's choice takes a non-empty part from each region
pub george_liu_takes : (m : Mesh) → Takes (adjacent m) (george_liu m)
unfolding george_liu
george_liu_takes m = choose_takes standard standard_sensible m

-- The blocks that begin in a list of heads: where each ends, and the sizes and parents that are read from all of them.
use mathlib.Core.Path.{◌≡◌, refl, sym, ap, ap₂, subst, ◌∙◌}
use mathlib.Core.Logic.{◌≢◌, ◌⊎◌, inl, inr}
use mathlib.Core.Bool.{true, not, cond}
use mathlib.Core.List.{List, [], ◌∷◌, ◌++◌, map}
use Prim.Native.Nat.{ℕ, zero, suc, ◌+◌, ◌-◌, ◌≤◌, ◌<◌}
use native.Mathlib.Numerals.{add-one}
use native.Mathlib.Omega.{arith}
use lib.Dec.{eqb}
use lib.ListN.{length, take, drop, get_or, replicate, length-drop, length-map, drop_of_length-le}
use lib.Seq.{drop-cons, drop-drop, get_or-drop}
use borrow.Author.Tests.{eq-eqb, ne_eqb}
use Rattle.plan.specs.Lists.{is_in, index_of}
use Rattle.plan.specs.Mesh.{no_parent, Mesh, adjacent}
use Rattle.plan.specs.Choice.{george_liu}
use Rattle.plan.specs.Dissection.{Forest, parts, sizes, parents}
use Rattle.plan.specs.Steps.{by_number}
use Rattle.plan.specs.Planning.{dissection_of}
use Rattle.theory.specs.Checked.{Checked}
use Rattle.theory.specs.PartTree.{PartTree}
use Rattle.theory.proofs.Bools.{cond_true, cond_false, eq_or_ne, lt_or_le}
use Rattle.theory.proofs.Lists.{is_in-head, is_in_tail, is_in-get_or, index_of_lt, get_or-index_of, get_d_default}
use Rattle.theory.proofs.Sums.{total-some}
use Rattle.theory.proofs.Counting.{count_le}
use Rattle.theory.proofs.Forest.{sizes-length}
use Rattle.theory.proofs.Dissection.{parts-few, dissection-tree}
use Rattle.theory.proofs.Choice.{george_liu_takes}
use Rattle.dissection.specs.Blocks.{inner, heads_of, state_after, Dissected, leading, block_sizes, block_parents, Heads}
use Rattle.dissection.proofs.States.{state_balanced}

-- ---- the first place of a list of heads

-- an inner place counts
leading-inner : (h : ℕ) (hs : List ℕ) → h ≡ inner → leading (h ∷ hs) ≡ suc (leading hs)
leading-inner h hs e = cond_true (eqb h inner) (suc (leading hs)) 0 (eq-eqb h inner e)

-- a head ends the count
leading-head : (h : ℕ) (hs : List ℕ) → h ≢ inner → leading (h ∷ hs) ≡ 0
leading-head h hs e = cond_false (eqb h inner) (suc (leading hs)) 0 (ne_eqb h inner e)

-- no block begins at an inner place
sizes-inner : (h : ℕ) (hs : List ℕ) → h ≡ inner → block_sizes (h ∷ hs) ≡ block_sizes hs
sizes-inner h hs e = cond_true (eqb h inner) (block_sizes hs) (suc (leading hs) ∷ block_sizes hs) (eq-eqb h inner e)

-- at a head a block begins, with the inner places that follow
sizes-head : (h : ℕ) (hs : List ℕ) → h ≢ inner → block_sizes (h ∷ hs) ≡ suc (leading hs) ∷ block_sizes hs
sizes-head h hs e = cond_false (eqb h inner) (block_sizes hs) (suc (leading hs) ∷ block_sizes hs) (ne_eqb h inner e)

-- an inner place has no parent
parents-inner : (h : ℕ) (hs : List ℕ) → h ≡ inner → block_parents (h ∷ hs) ≡ block_parents hs
parents-inner h hs e = rw (eq-eqb h inner e) refl

-- a head is a block's parent
parents-head : (h : ℕ) (hs : List ℕ) → h ≢ inner → block_parents (h ∷ hs) ≡ h ∷ block_parents hs
parents-head h hs e = rw (ne_eqb h inner e) refl

-- ---- the inner places at the front

-- they are places of the list
leading_le : (hs : List ℕ) → leading hs ≤ length hs
leading_le [] = omega arith
leading_le (h ∷ hs) = go (leading_le hs)
  where
    go : leading hs ≤ length hs → leading (h ∷ hs) ≤ length (h ∷ hs)
    go l = elim (eq_or_ne h inner) [ inl e ↦ omega (arith, leading-inner h hs e) | inr e ↦ omega (arith, leading-head h hs e) ]

-- for what no inner place in front changes
module _ {A : Type 0} (f : List ℕ → A) (over : (h : ℕ) (hs : List ℕ) → h ≡ inner → f (h ∷ hs) ≡ f hs) where
  -- those at the front may be left out
  skip_leading : (hs : List ℕ) → f (drop (leading hs) hs) ≡ f hs
  skip_leading [] = refl
  skip_leading (h ∷ hs) = go (skip_leading hs)
    where
      go : f (drop (leading hs) hs) ≡ f hs → f (drop (leading (h ∷ hs)) (h ∷ hs)) ≡ f (h ∷ hs)
      go r = elim (eq_or_ne h inner) [
        | inl e ↦ ap (λ (k : ℕ). f (drop k (h ∷ hs))) (leading-inner h hs e) ∙ r ∙ sym (over h hs e)
        | inr e ↦ ap (λ (k : ℕ). f (drop k (h ∷ hs))) (leading-head h hs e)
      ]

  -- and more of them may be put there
  skip_replicate : (k : ℕ) (hs : List ℕ) → f (replicate k inner ++ hs) ≡ f hs
  skip_replicate zero hs = refl
  skip_replicate (suc k) hs = over inner (replicate k inner ++ hs) refl ∙ skip_replicate k hs

-- behind them stands a head
head-behind : (hs : List ℕ) → leading hs < length hs → get_or hs (leading hs) 0 ≢ inner
head-behind [] l = absurd (omega arith)
head-behind (h ∷ hs) l = go (head-behind hs)
  where
    go : (leading hs < length hs → get_or hs (leading hs) 0 ≢ inner) → get_or (h ∷ hs) (leading (h ∷ hs)) 0 ≢ inner
    go r = elim (eq_or_ne h inner) [
      | inl e ↦ λ f. r (omega (arith, leading-inner h hs e)) (ap (λ (k : ℕ). get_or (h ∷ hs) k 0) (sym (leading-inner h hs e)) ∙ f)
      | inr e ↦ λ f. e (ap (λ (k : ℕ). get_or (h ∷ hs) k 0) (sym (leading-head h hs e)) ∙ f)
    ]

-- ---- the end of a block, place by place

module _ (hs : List ℕ) (e : ℕ) where
  -- one more inner place
  pub end_more : e < length hs → get_or hs e 0 ≡ inner → e + leading (drop e hs) ≡ e + 1 + leading (drop (e + 1) hs)
  end_more l i = rw (drop-cons hs e 0 l, leading-inner (get_or hs e 0) (drop (suc e) hs) i, add-one) (omega arith)

  -- a head, the first one of the next block
  pub end_here : e < length hs → get_or hs e 0 ≢ inner → leading (drop e hs) ≡ 0
  end_here l i = rw (drop-cons hs e 0 l) (leading-head (get_or hs e 0) (drop (suc e) hs) i)

  -- the end of the list
  pub end-last : length hs ≤ e → leading (drop e hs) ≡ 0
  end-last l = ap leading (drop_of_length-le hs l)

-- ---- the blocks one after the other

-- there are as many sizes as parents
pub sizes-many : (hs : List ℕ) → length (block_sizes hs) ≡ length (block_parents hs)
sizes-many [] = refl
sizes-many (h ∷ hs) = go (sizes-many hs)
  where
    go : length (block_sizes hs) ≡ length (block_parents hs) → length (block_sizes (h ∷ hs)) ≡ length (block_parents (h ∷ hs))
    go r = elim (eq_or_ne h inner) [
      | inl e ↦ ap length (sizes-inner h hs e) ∙ r ∙ sym (ap length (parents-inner h hs e))
      | inr e ↦ ap length (sizes-head h hs e) ∙ ap suc r ∙ sym (ap length (parents-head h hs e))
    ]

-- there are at most as many as places
pub blocks_few : (hs : List ℕ) → length (block_parents hs) ≤ length hs
blocks_few hs = count_le (λ h. not (eqb h inner)) hs

-- The first q blocks end before place `at`.
pub record Passed (hs : List ℕ) (at q : ℕ) : Type 0 where
  pub low : at ≤ length hs
  pub sizes : drop q (block_sizes hs) ≡ block_sizes (drop at hs)
  pub parents : drop q (block_parents hs) ≡ block_parents (drop at hs)
  -- the next one begins there
  pub begins : at < length hs → get_or hs at 0 ≢ inner

-- none is passed at the first place
pub passed_none : (hs : List ℕ) → get_or hs 0 inner ≢ inner → Passed hs 0 0
passed_none hs b = record { low = omega arith; sizes = refl; parents = refl; begins = λ l e. b (get_d_default hs 0 inner 0 l ∙ e) }

module _ (hs : List ℕ) (at q : ℕ) (p : Passed hs at q) (more : q < length (block_parents hs)) where
  -- where more blocks are to come there is a place
  pub passed-place : at < length hs
  passed-place = elim (lt_or_le at (length hs)) [
    | inl l ↦ l
    | inr l ↦ absurd (omega (arith, length-drop q (block_parents hs), ap length (p.parents ∙ ap block_parents (drop_of_length-le hs l))))
  ]

  -- the places behind this one
  abbrev behind : List ℕ
  behind = drop (at + 1) hs

  -- the head at this one
  abbrev head : ℕ
  head = get_or hs at 0

  -- the places from this one on
  here : drop at hs ≡ head ∷ behind
  here = rw add-one (drop-cons hs at 0 passed-place)

  -- the sizes of the blocks that begin there
  sizes_here : drop q (block_sizes hs) ≡ suc (leading behind) ∷ block_sizes behind
  sizes_here = p.sizes ∙ ap block_sizes here ∙ sizes-head head behind (p.begins passed-place)

  -- and their parents
  parents_here : drop q (block_parents hs) ≡ head ∷ block_parents behind
  parents_here = p.parents ∙ ap block_parents here ∙ parents-head head behind (p.begins passed-place)

  -- the parent of the next block
  pub passed-parent : get_or (block_parents hs) q 0 ≡ get_or hs at 0
  passed-parent = ap (λ (k : ℕ). get_or (block_parents hs) k 0) (omega arith) ∙ sym (get_or-drop q (block_parents hs) 0 0) ∙ ap (λ (l : List ℕ). get_or l 0 0) parents_here

  -- which is none, or one of the blocks
  pub passed-known : (count : ℕ) → Heads hs count → get_or hs at 0 ≢ no_parent → get_or hs at 0 < count
  passed-known count h other =
      elim (h.known (get_or hs at 0) (ap (λ (x : ℕ). is_in x (block_parents hs)) (sym passed-parent) ∙ is_in-get_or (block_parents hs) q 0 more)) [
        | inl e ↦ absurd (other e)
        | inr l ↦ l
      ]

  module _ (end : ℕ) (ends : end ≡ at + 1 + leading behind) where
    -- it ends within the list
    pub passed-end : end ≤ length hs
    passed-end = omega (arith, leading_le behind, length-drop (at + 1) hs, passed-place)

    -- its size
    pub passed_size : get_or (block_sizes hs) q 0 ≡ end - at
    passed_size = ap (λ (k : ℕ). get_or (block_sizes hs) k 0) (omega arith) ∙ sym (get_or-drop q (block_sizes hs) 0 0) ∙ ap (λ (l : List ℕ). get_or l 0 0) sizes_here ∙ omega arith

    -- and then it is passed too
    pub passed_more : Passed hs end (q + 1)
    passed_more = record {
      low = passed-end;
      sizes = sym (drop-drop 1 q (block_sizes hs)) ∙ ap (drop 1) sizes_here ∙ sym (skip_leading block_sizes sizes-inner behind) ∙ ap block_sizes rest;
      parents = sym (drop-drop 1 q (block_parents hs)) ∙ ap (drop 1) parents_here ∙ sym (skip_leading block_parents parents-inner behind) ∙ ap block_parents rest;
      begins = λ l e. head-behind behind (omega (arith, length-drop (at + 1) hs)) (get_or-drop (at + 1) hs (leading behind) 0 ∙ ap (λ (k : ℕ). get_or hs k 0) (sym ends) ∙ e);
    }
      where
        rest : drop (leading behind) behind ≡ drop end hs
        rest = drop-drop (leading behind) (at + 1) hs ∙ ap (λ (k : ℕ). drop k hs) (sym ends)

-- ---- parents by number

-- there are as many
pub numbers-many : (p : ℕ) (ps : List ℕ) → length (by_number p ps) ≡ length ps
unfolding by_number
numbers-many p ps = length-map ps (λ k. cond (eqb k no_parent) no_parent (p - 1 - k))

-- each by itself
pub number_at : (p : ℕ) (ps : List ℕ) (q : ℕ) → q < length ps → get_or (by_number p ps) q 0 ≡ cond (eqb (get_or ps q 0) no_parent) no_parent (p - 1 - get_or ps q 0)
unfolding by_number
number_at p [] q l = absurd (omega arith)
number_at p (k ∷ ps) zero l = refl
number_at p (k ∷ ps) (suc q) l = number_at p ps q (omega arith)

-- ---- the heads of given blocks

-- inner places in front are counted
leading-replicate : (k : ℕ) (hs : List ℕ) → leading (replicate k inner ++ hs) ≡ k + leading hs
leading-replicate zero hs = omega arith
leading-replicate (suc k) hs = omega (arith, leading-inner inner (replicate k inner ++ hs) refl, leading-replicate k hs)

-- no parent looks like an inner place
abbrev Plain : List ℕ → Type 0
Plain ps = (p : ℕ) → is_in p ps ≡ true → p ≢ inner

-- the heads of blocks begin with a head
leading_heads : (blocks : List (List ℕ)) (ps : List ℕ) → Plain ps → leading (heads_of blocks ps) ≡ 0
leading_heads [] ps plain = refl
leading_heads (b ∷ blocks) [] plain = refl
leading_heads (b ∷ blocks) (p ∷ ps) plain = leading-head p (replicate (length b - 1) inner ++ heads_of blocks ps) (plain p (is_in-head p ps))

-- the sizes that are read from them are those of the blocks, where none is empty
sizes_heads : (blocks : List (List ℕ)) (ps : List ℕ) → length ps ≡ length blocks → ((q : ℕ) → q < length (map length blocks) → 0 < get_or (map length blocks) q 0)
    → Plain ps → block_sizes (heads_of blocks ps) ≡ map length blocks
sizes_heads [] ps many full plain = refl
sizes_heads (b ∷ blocks) [] many full plain = absurd (omega arith)
sizes_heads (b ∷ blocks) (p ∷ ps) many full plain =
    let k : ℕ = length b - 1 in
    let later : Plain ps = λ x m. plain x (is_in_tail x p ps m) in
    sizes-head p (replicate k inner ++ heads_of blocks ps) (plain p (is_in-head p ps))
    ∙ ap₂ (λ (size : ℕ) (l : List ℕ). size ∷ l)
    (omega (arith, leading-replicate k (heads_of blocks ps), leading_heads blocks ps later, full 0 (omega arith)))
    (skip_replicate block_sizes sizes-inner k (heads_of blocks ps) ∙ sizes_heads blocks ps (omega arith) (λ q l. full (suc q) (omega arith)) later)

-- the parents that are read from them are the parents
parents_heads : (blocks : List (List ℕ)) (ps : List ℕ) → length ps ≡ length blocks → Plain ps → block_parents (heads_of blocks ps) ≡ ps
parents_heads [] [] many plain = refl
parents_heads [] (p ∷ ps) many plain = absurd (omega arith)
parents_heads (b ∷ blocks) [] many plain = absurd (omega arith)
parents_heads (b ∷ blocks) (p ∷ ps) many plain =
    let k : ℕ = length b - 1 in
    parents-head p (replicate k inner ++ heads_of blocks ps) (plain p (is_in-head p ps))
    ∙ ap (λ (l : List ℕ). p ∷ l) (skip_replicate block_parents parents-inner k (heads_of blocks ps) ∙ parents_heads blocks ps (omega arith) (λ x m. plain x (is_in_tail x p ps m)))

-- the first place is a head, where there is a block
begins_heads : (blocks : List (List ℕ)) (ps : List ℕ) → length ps ≡ length blocks → 0 < length blocks → Plain ps → get_or (heads_of blocks ps) 0 inner ≢ inner
begins_heads [] ps many some plain = absurd (omega arith)
begins_heads (b ∷ blocks) [] many some plain = absurd (omega arith)
begins_heads (b ∷ blocks) (p ∷ ps) many some plain = plain p (is_in-head p ps)

-- ---- the parts of a dissection

-- the sizes sum to n, each is positive, and there is a parent for each
planned-tree : (m : Mesh) → PartTree m.nodes (sizes (dissection_of m)) (parents (dissection_of m))
planned-tree m = dissection-tree (adjacent m) (george_liu m) (george_liu_takes m) m.nodes

-- there are at most as many parts as nodes
planned-few : (m : Mesh) → length (parts (dissection_of m)) ≤ m.nodes
planned-few m = parts-few (adjacent m) (george_liu m) (george_liu_takes m) m.nodes

-- the sizes are the lengths of the parts
sizes-lengths : (f : Forest) → sizes f ≡ map length (parts f)
unfolding sizes
sizes-lengths f = refl

module _ (m : Mesh) (good : Checked m) {left : ℕ} (orderHeld heads : List ℕ) (count : ℕ) (d : Dissected m orderHeld heads left count) where
  -- the parents in the order of choosing
  abbrev chosen_parents : List ℕ
  chosen_parents = (state_after m count).parents

  -- there are `count`
  as_many_lem : length chosen_parents ≡ count
  as_many_lem = sym (numbers-many count chosen_parents) ∙ ap length d.parents ∙ (planned-tree m).as_many ∙ sizes-length (dissection_of m) ∙ sym d.many

  -- so there are as many as parts
  parts-many : length chosen_parents ≡ length (parts (dissection_of m))
  parts-many = as_many_lem ∙ d.many

  -- none, or one of the parts
  parent-known : (p : ℕ) → is_in p chosen_parents ≡ true → (p ≡ no_parent) ⊎ (p < count)
  parent-known p h =
      let i : ℕ = index_of p chosen_parents in
      let l : i < length chosen_parents = index_of_lt chosen_parents p h in
      let e : get_or chosen_parents i 0 ≡ p = get_or-index_of chosen_parents p 0 l in
      elim ((state_balanced m count).parents i l) [
        | inl n ↦ inl (sym e ∙ n)
        | inr n ↦ inr (omega (arith, e, as_many_lem, (state_balanced m count).as_many))
      ]

  -- so it is no inner place
  parent_plain : Plain chosen_parents
  parent_plain p h e = elim (parent-known p h) [ inl n ↦ omega arith | inr n ↦ omega (arith, d.many, planned-few m, good.few) ]

  -- each part has a node
  parts-full : (q : ℕ) → q < length (map length (parts (dissection_of m))) → 0 < get_or (map length (parts (dissection_of m))) q 0
  parts-full = subst (λ (l : List ℕ). (q : ℕ) → q < length l → 0 < get_or l q 0) (sizes-lengths (dissection_of m)) (planned-tree m).positive

  -- there is a part
  parts-some : 0 < length (parts (dissection_of m))
  parts-some = omega (arith, total-some (sizes (dissection_of m)) (omega (arith, (planned-tree m).whole, good.some)), sizes-length (dissection_of m))

  -- the sizes that are read are those of the parts
  read_sizes : block_sizes (take m.nodes heads) ≡ sizes (dissection_of m)
  read_sizes = ap block_sizes d.marks ∙ sizes_heads (parts (dissection_of m)) chosen_parents parts-many parts-full parent_plain ∙ sym (sizes-lengths (dissection_of m))

  -- and the parents
  read_parents : block_parents (take m.nodes heads) ≡ chosen_parents
  read_parents = ap block_parents d.marks ∙ parents_heads (parts (dissection_of m)) chosen_parents parts-many parent_plain

  -- so these are heads of `count` blocks
  read_heads : Heads (take m.nodes heads) count
  read_heads = record {
    begins = rw d.marks (begins_heads (parts (dissection_of m)) chosen_parents parts-many parts-some parent_plain);
    many = ap length read_parents ∙ as_many_lem;
    known = rw read_parents parent-known;
  }

-- What is read from the heads of a dissection are its parts: their sizes, and their parents by number.
pub dissected_parts : (m : Mesh) → Checked m → {left : ℕ} (order heads : List ℕ) (count : ℕ) → Dissected m order heads left count
    → Heads (take m.nodes heads) count × (block_sizes (take m.nodes heads) ≡ sizes (dissection_of m)) × (by_number count (block_parents (take m.nodes heads)) ≡ parents (dissection_of m))
dissected_parts m good order heads count d = (
  read_heads m good order heads count d,
  read_sizes m good order heads count d,
  ap (by_number count) (read_parents m good order heads count d) ∙ d.parents,
)

-- Where the nodes of the second of two meshes go when they are joined (document 02, E10), and where those of the joined mesh come from.
use mathlib.Core.Path.{◌≡◌, refl, sym, ap, ◌∙◌}
use mathlib.Core.Logic.{◌≢◌, inl, inr}
use mathlib.Core.Bool.{Bool, true, false, not, ◌||◌}
use mathlib.Core.List.{List, [], ◌∷◌, map}
use Prim.Native.Nat.{ℕ, zero, suc, ◌+◌, ◌-◌, ◌≤◌, ◌<◌}
use native.Mathlib.Numerals.{add-one}
use native.Mathlib.Omega.{arith}
use lib.Dec.{leb, eqb}
use lib.ListN.{length, get_or}
use borrow.Author.Tests.{eqb-true, leb-false, not-false}
use Rattle.plan.specs.Lists.{exists, below, is_in, without, index_of, twice}
use Rattle.plan.specs.Joining.{Pairing, bad_pairing, paired_twice, goes_to, joined_nodes, comes_from}
use Rattle.plan.specs.JoinStatements.{WhereNodesGo}
use Rattle.theory.specs.Counting.{count}
use Rattle.theory.specs.Pairings.{Paired}
use Rattle.theory.proofs.Bools.{or_false_left, or_false_right, clash, refuted, cond_true, cond_false, tested, eqb_comm, eq_or_ne, lt_or_le}
use Rattle.theory.proofs.Lists.{is_in-head, is_in_tail, is_in-get_or, exists-none, map-is_in, index_of_le, index_of_lt, index_of_out, get_or-index_of}
use Rattle.theory.proofs.Ranges.{length-up_from, is_in-below, get_or-map-below, length-map-up_from}
use Rattle.theory.proofs.Counting.{unit, count-below_more, count_none, count_ext, count-once, count_sum, count-all, unit_either}
use Rattle.theory.proofs.Twice.{once_index}

-- what check 32 says
pub pairs-inside : (n₁ n₂ : ℕ) (p : Pairing) → bad_pairing n₁ n₂ p ≡ false
    → (length p.first ≡ length p.second) × ((v : ℕ) → is_in v p.first ≡ true → v < n₁) × ((w : ℕ) → is_in w p.second ≡ true → w < n₂)
unfolding bad_pairing
pairs-inside n₁ n₂ p bad =
    let many : Bool = eqb (length p.first) (length p.second) in
    let outside : Bool = exists (leb n₁) p.first in
    let both : (not many || outside) ≡ false = or_false_left (not many || outside) _ bad in (
      eqb-true (length p.first) (length p.second) (not-false many (or_false_left (not many) _ both)),
      (λ v t. leb-false n₁ v (exists-none (leb n₁) p.first (or_false_right (not many) _ both) v t)),
      λ w t. leb-false n₂ w (exists-none (leb n₂) p.second (or_false_right (not many || outside) _ bad) w t),
    )

-- and with it 33
pub paired : (n₁ n₂ : ℕ) (p : Pairing) → bad_pairing n₁ n₂ p ≡ false → paired_twice p ≡ false → Paired n₁ n₂ p
unfolding paired_twice
paired n₁ n₂ p bad again =
    let inside = pairs-inside n₁ n₂ p bad in
    record {
      as_many = inside.0;
      in_first = inside.1;
      in_second = inside.2;
      once_first = or_false_left (twice p.first) _ again;
      once_second = or_false_right (twice p.first) _ again;
    }

-- ---- the unpaired nodes

-- how many nodes before w are unpaired
abbrev pub unpaired_below : Pairing → ℕ → ℕ
unpaired_below p w = length (without p.second (below w))

module _ (p : Pairing) where
  -- one node more
  pub unpaired_more : (w : ℕ) → unpaired_below p (w + 1) ≡ unpaired_below p w + unit (not (is_in w p.second))
  unpaired_more w = count-below_more (λ x. not (is_in x p.second)) w

  -- there are no fewer before a later node
  pub unpaired_mono : (v w : ℕ) → v ≤ w → unpaired_below p v ≤ unpaired_below p w
  unpaired_mono v zero le = let e : v ≡ 0 = omega arith in rw e (omega arith)
  unpaired_mono v (suc w) le = elim (eq_or_ne v (suc w)) [
    | inl e ↦ rw e (omega arith)
    | inr e ↦ omega (arith, unpaired_mono v w (omega (arith, e)), unpaired_more w, ap (unpaired_below p) (add-one w))
  ]

  -- and one more, if the earlier node is unpaired
  pub unpaired_less : (v w : ℕ) → v < w → is_in v p.second ≡ false → unpaired_below p v < unpaired_below p w
  unpaired_less v w lt free = omega (arith, unpaired_more v, ap (λ (b : Bool). unit (not b)) free, unpaired_mono (v + 1) w (omega arith))

  -- of each number below theirs there is an unpaired node with so many before it
  pub unpaired_all : (k w : ℕ) → k < unpaired_below p w → (v : ℕ) × (v < w) × (is_in v p.second ≡ false) × (unpaired_below p v ≡ k)
  unpaired_all k zero h = absurd (omega arith)
  unpaired_all k (suc w) h = elim (lt_or_le k (unpaired_below p w)) [
    | inl lt ↦ (let r = unpaired_all k w lt in (r.0, omega (arith, r.1), r.2, r.3))
    | inr le ↦ elim (tested (is_in w p.second)) [
      | inl t ↦ absurd (omega (arith, h, le, ap (unpaired_below p) (add-one w), unpaired_more w, ap (λ (b : Bool). unit (not b)) t))
      | inr t ↦ (w, omega arith, t, omega (arith, h, le, ap (unpaired_below p) (add-one w), unpaired_more w, ap (λ (b : Bool). unit (not b)) t))
    ]
  ]

-- ---- where nodes go

-- numbers below n, none of them twice, are as many as they are
members-many : (n : ℕ) (l : List ℕ) → twice l ≡ false → ((x : ℕ) → is_in x l ≡ true → x < n) → count (λ x. is_in x l) (below n) ≡ length l
members-many n [] once inside = count_none (λ x. is_in x []) (below n) (λ x t. refl)
members-many n (y ∷ l) once inside =
    let rest = members-many n l (or_false_right (is_in y l) (twice l) once) (λ x t. inside x (is_in_tail x y l t)) in
    let own : count (λ x. eqb x y) (below n) ≡ 1 =
    count_ext (λ x. eqb x y) (eqb y) (below n) (λ x t. eqb_comm x y) ∙ count-once n 0 y (omega arith) (omega (arith, inside y (is_in-head y l))) in
    count_sum (λ x. is_in x (y ∷ l)) (λ x. eqb x y) (λ x. is_in x l) (below n)
    (λ x. unit_either (eqb x y) (is_in x l) (λ e. ap (λ (z : ℕ). is_in z l) (eqb-true x y e) ∙ or_false_left (is_in y l) (twice l) once))
    ∙ omega (arith, rest, own)

module _ (n₁ n₂ : ℕ) (p : Pairing) where
  -- a node in the second list is one of its places
  place : (w : ℕ) → is_in w p.second ≡ true → index_of w p.second < length p.second
  place w t = index_of_lt p.second w t

  pub goes_unpaired : (w : ℕ) → is_in w p.second ≡ false → goes_to n₁ p w ≡ n₁ + unpaired_below p w
  unfolding goes_to
  goes_unpaired w f = cond_false (is_in w p.second) _ _ f

  pub goes_with : (w : ℕ) → is_in w p.second ≡ true → goes_to n₁ p w ≡ get_or p.first (index_of w p.second) 0
  unfolding goes_to
  goes_with w t = cond_true (is_in w p.second) _ _ t

  -- where a node of the joined mesh comes from is a place of the list of where nodes go
  origins_long : length (map (goes_to n₁ p) (below n₂)) ≡ n₂
  origins_long = length-map-up_from (goes_to n₁ p) n₂ 0

  pub goes_comes : (v : ℕ) → comes_from n₁ n₂ p v < n₂ → goes_to n₁ p (comes_from n₁ n₂ p v) ≡ v
  unfolding comes_from
  goes_comes v lt =
      let goes : List ℕ = map (goes_to n₁ p) (below n₂) in
      sym (get_or-map-below (goes_to n₁ p) 0 n₂ (index_of v goes) lt) ∙ get_or-index_of goes v 0 (omega (arith, lt, origins_long))

  -- it is no node where no node goes there
  pub comes_none : (v : ℕ) → ((w : ℕ) → w < n₂ → goes_to n₁ p w ≢ v) → comes_from n₁ n₂ p v ≡ n₂
  unfolding comes_from
  comes_none v none =
      let goes : List ℕ = map (goes_to n₁ p) (below n₂) in
      index_of_out goes v (refuted (is_in v goes) (λ t. let r = map-is_in (goes_to n₁ p) (below n₂) v t in none r.0 (is_in-below n₂ r.0 r.1) (sym r.2))) ∙ origins_long

  module _ (h : Paired n₁ n₂ p) where
    -- pair k
    pub goes_paired : (k : ℕ) → k < length p.second → goes_to n₁ p (get_or p.second k 0) ≡ get_or p.first k 0
    goes_paired k lt =
        goes_with (get_or p.second k 0) (is_in-get_or p.second k 0 lt)
        ∙ ap (λ (i : ℕ). get_or p.first i 0) (once_index p.second h.once_second k lt)

    -- a paired node goes to a node of the first mesh
    pub goes_first : (w : ℕ) → is_in w p.second ≡ true → goes_to n₁ p w < n₁
    goes_first w t =
        rw (goes_with w t) (h.in_first (get_or p.first (index_of w p.second) 0) (is_in-get_or p.first (index_of w p.second) 0 (omega (arith, place w t, h.as_many))))

    -- each goes to a node of the joined mesh
    pub goes_inside : (w : ℕ) → w < n₂ → goes_to n₁ p w < joined_nodes n₁ n₂ p
    unfolding joined_nodes
    goes_inside w lt = elim (tested (is_in w p.second)) [
      | inl t ↦ omega (arith, goes_first w t)
      | inr f ↦ omega (arith, goes_unpaired w f, unpaired_less p w n₂ lt f)
    ]

    -- no two go to the same one
    pub goes_apart : (v w : ℕ) → goes_to n₁ p v ≡ goes_to n₁ p w → v ≡ w
    goes_apart v w e = elim (tested (is_in v p.second)) [
      | inl s ↦ elim (tested (is_in w p.second)) [
        | inl t ↦ both s t
        | inr f ↦ absurd (omega (arith, e, goes_first v s, goes_unpaired w f))
      ]
      | inr s ↦ elim (tested (is_in w p.second)) [
        | inl t ↦ absurd (omega (arith, e, goes_first w t, goes_unpaired v s))
        | inr f ↦ neither s f
      ]
    ]
      where
        both : is_in v p.second ≡ true → is_in w p.second ≡ true → v ≡ w
        both s t =
            let i : ℕ = index_of v p.second in
            let j : ℕ = index_of w p.second in
            let same : get_or p.first i 0 ≡ get_or p.first j 0 = sym (goes_with v s) ∙ e ∙ goes_with w t in
            let at : i ≡ j =
            sym (once_index p.first h.once_first i (omega (arith, place v s, h.as_many)))
            ∙ ap (λ (x : ℕ). index_of x p.first) same
            ∙ once_index p.first h.once_first j (omega (arith, place w t, h.as_many)) in
            sym (get_or-index_of p.second v 0 (place v s)) ∙ ap (λ (k : ℕ). get_or p.second k 0) at ∙ get_or-index_of p.second w 0 (place w t)

        neither : is_in v p.second ≡ false → is_in w p.second ≡ false → v ≡ w
        neither s f =
            let same : unpaired_below p v ≡ unpaired_below p w = omega (arith, e, goes_unpaired v s, goes_unpaired w f) in
            elim (lt_or_le v w) [
              | inl lt ↦ absurd (omega (arith, same, unpaired_less p v w lt s))
              | inr le ↦ elim (eq_or_ne v w) [ inl q ↦ q | inr q ↦ absurd (omega (arith, same, unpaired_less p w v (omega (arith, le, q)) f)) ]
            ]

    pub comes_goes : (w : ℕ) → w < n₂ → comes_from n₁ n₂ p (goes_to n₁ p w) ≡ w
    unfolding comes_from
    comes_goes w lt =
        let goes : List ℕ = map (goes_to n₁ p) (below n₂) in
        let own : get_or goes w 0 ≡ goes_to n₁ p w = get_or-map-below (goes_to n₁ p) 0 n₂ w lt in
        let le : index_of (goes_to n₁ p w) goes ≤ w =
        rw own at (index_of_le goes w 0 (omega (arith, lt, origins_long))) in
        goes_apart (index_of (goes_to n₁ p w) goes) w (unfold comes_from in goes_comes (goes_to n₁ p w) (omega (arith, le, lt)))

    -- behind the nodes of the first mesh each comes from one
    pub comes_all : (v : ℕ) → n₁ ≤ v → v < joined_nodes n₁ n₂ p → comes_from n₁ n₂ p v < n₂
    unfolding joined_nodes
    comes_all v le lt =
        let k : ℕ = v - n₁ in
        let r = unpaired_all p k n₂ (omega arith) in
        let e : goes_to n₁ p r.0 ≡ v = omega (arith, goes_unpaired r.0 r.2, r.3, le) in
        omega (arith, r.1, sym (ap (comes_from n₁ n₂ p) e) ∙ comes_goes r.0 r.1)

    -- a node of the first mesh comes from its partner in the second
    pub comes_paired : (k : ℕ) → k < length p.second → comes_from n₁ n₂ p (get_or p.first k 0) ≡ get_or p.second k 0
    comes_paired k lt =
        sym (ap (comes_from n₁ n₂ p) (goes_paired k lt)) ∙ comes_goes (get_or p.second k 0) (h.in_second (get_or p.second k 0) (is_in-get_or p.second k 0 lt))

    -- and from none in it, where it is unpaired
    pub comes_unpaired : (v : ℕ) → v < n₁ → is_in v p.first ≡ false → comes_from n₁ n₂ p v ≡ n₂
    comes_unpaired v lt free = comes_none v (λ w l e. elim (tested (is_in w p.second)) [
      | inl t ↦ clash (is_in v p.first)
          (ap (λ (x : ℕ). is_in x p.first) (sym e ∙ goes_with w t) ∙ is_in-get_or p.first (index_of w p.second) 0 (omega (arith, place w t, h.as_many))) free
      | inr f ↦ absurd (omega (arith, e, goes_unpaired w f, lt))
    ])

    -- the nodes of the joined mesh, counted
    pub nodes-many : joined_nodes n₁ n₂ p + length p.second ≡ n₁ + n₂
    unfolding joined_nodes
    nodes-many =
        let free : ℕ → Bool = λ x. not (is_in x p.second) in
        let all : count (λ x. true) (below n₂) ≡ count free (below n₂) + count (λ x. is_in x p.second) (below n₂) =
        count_sum (λ x. true) free (λ x. is_in x p.second) (below n₂) (λ x. either (is_in x p.second)) in
        omega (arith, all, count-all (below n₂), length-up_from n₂ 0, members-many n₂ p.second h.once_second h.in_second)
      where
        either : (b : Bool) → unit true ≡ unit (not b) + unit b
        either true = refl
        either false = refl

pub nodes-go : WhereNodesGo
nodes-go n₁ n₂ p bad again =
    let h = paired n₁ n₂ p bad again in
    record {
      paired = goes_paired n₁ n₂ p h;
      behind = λ w l f. omega (arith, goes_unpaired n₁ n₂ p w f);
      in_order = λ v w l m f g. omega (arith, goes_unpaired n₁ n₂ p v f, goes_unpaired n₁ n₂ p w g, unpaired_less p v w l f);
      inside = goes_inside n₁ n₂ p h;
      apart = comes_goes n₁ n₂ p h;
      back = goes_comes n₁ n₂ p;
      all = comes_all n₁ n₂ p h;
      many = nodes-many n₁ n₂ p h;
    }

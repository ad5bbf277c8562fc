-- Laws of blocks that stand one after the other: where they begin, and their heads.
use mathlib.Core.Path.{◌≡◌, refl, sym, ap, ap₂, ◌∙◌}
use mathlib.Core.Logic.{◌≢◌}
use mathlib.Core.Bool.{true, false, cond}
use mathlib.Core.List.{List, [], ◌∷◌, ◌++◌, map, flatten, append_assoc, append-nil}
use Prim.Native.Nat.{ℕ, zero, suc, ◌+◌, ◌-◌, ◌≤◌, ◌<◌}
use native.Mathlib.Nat.{add-zero}
use native.Mathlib.Omega.{arith}
use lib.ListN.{length, take, drop, set, get_or, replicate, length-append, length-drop, length-set, length-replicate, get_or-replicate, take-append-drop}
use lib.Seq.{take_at, drop_at, take-add, drop-drop, get_or-take, get_or-drop, get_or-set_same, get_or-set_other, ext_get_or, length-take-le, take-append-le, take-length}
use Rattle.plan.specs.Lists.{is_in, total, index_of}
use Rattle.theory.specs.Regions.{All}
use Rattle.theory.specs.Places.{begin_of}
use Rattle.theory.proofs.Bools.{refuted, cond_true, cond_false}
use Rattle.theory.proofs.Lists.{is_in-get_or, index_of_lt, get_or-index_of}
use Rattle.theory.proofs.Flatten.{flatten_nil, flatten_cons}
use Rattle.theory.proofs.Compressed.{total-lengths}
use Rattle.dissection.specs.Numbers.{Renumbered, Begins}
use Rattle.dissection.specs.Blocks.{inner, heads_of}

-- ---- segments of a list

module _ {A : Type 0} where
  -- a list that begins with three lists has the second one behind the first
  pub segment_of : (n : ℕ) (l xs ys zs : List A) → take n l ≡ xs ++ (ys ++ zs) → take (length ys) (drop (length xs) l) ≡ ys
  segment_of n l xs ys zs e =
      let whole : l ≡ xs ++ (ys ++ (zs ++ drop n l)) = sym (take-append-drop n l) ∙ ap (λ (front : List A). front ++ drop n l) e ∙ simp append_assoc in
      ap (λ (l : List A). take (length ys) (drop (length xs) l)) whole
      ∙ ap (take (length ys)) (drop_at xs (ys ++ (zs ++ drop n l)) (length xs) refl)
      ∙ take_at ys (zs ++ drop n l) (length ys) refl

  -- one segment in two
  pub segment_two : (at a b : ℕ) (l : List A) → take (a + b) (drop at l) ≡ take a (drop at l) ++ take b (drop (at + a) l)
  segment_two at a b l = take-add a b (drop at l) ∙ ap (λ (r : List A). take a (drop at l) ++ take b r) (drop-drop a at l)

  -- a segment within a list is as long as it says
  pub segment-long : (at k : ℕ) (l : List A) → at + k ≤ length l → length (take k (drop at l)) ≡ k
  segment-long at k l h = length-take-le k (drop at l) (omega (arith, length-drop at l))

  -- a segment, element by element
  pub segment-get_or : (at k : ℕ) (l : List A) (d : A) (i : ℕ) → i < k → get_or (take k (drop at l)) i d ≡ get_or l (at + i) d
  segment-get_or at k l d i h = get_or-take k (drop at l) i d h ∙ get_or-drop at l i d

  -- a list that begins with three lists, with another one of its length in the place of the second
  pub segment_other : (n : ℕ) (l new xs ys zs other : List A) → take n l ≡ xs ++ (ys ++ zs) → n ≤ length l → length other ≡ length ys
      → new ≡ take (length xs) l ++ (other ++ drop (length xs + length ys) l) → take n new ≡ xs ++ (other ++ zs)
  segment_other n l new xs ys zs other e long same now =
      let rest : List A = drop n l in
      let whole : l ≡ xs ++ (ys ++ (zs ++ rest)) = sym (take-append-drop n l) ∙ ap (λ (front : List A). front ++ rest) e ∙ simp append_assoc in
      let front : take (length xs) l ≡ xs = ap (take (length xs)) whole ∙ take_at xs (ys ++ (zs ++ rest)) (length xs) refl in
      let behind : drop (length xs + length ys) l ≡ zs ++ rest = ap (drop (length xs + length ys)) (whole ∙ sym (append_assoc xs ys (zs ++ rest))) ∙ drop_at (xs ++ ys) (zs ++ rest) (length xs + length ys) (length-append xs ys) in
      let size : length (xs ++ (other ++ zs)) ≡ n =
      omega (arith, length-append xs (other ++ zs), length-append other zs, length-take-le n l long, ap length e, length-append xs (ys ++ zs), length-append ys zs) in
      ap (take n) (now ∙ ap₂ (λ (f b : List A). f ++ (other ++ b)) front behind ∙ simp append_assoc)
      ∙ take_at (xs ++ (other ++ zs)) rest n size

-- two lists with the same elements there have the same segment
pub segment-same : (at k : ℕ) (l r : List ℕ) → at + k ≤ length l → at + k ≤ length r → ((i : ℕ) → at ≤ i → i < at + k → get_or l i 0 ≡ get_or r i 0)
    → take k (drop at l) ≡ take k (drop at r)
segment-same at k l r hl hr same =
    ext_get_or 0 (take k (drop at l)) (take k (drop at r)) (segment-long at k l hl ∙ sym (segment-long at k r hr))
    (λ i h. let lt : i < k = omega (arith, segment-long at k l hl) in
    segment-get_or at k l 0 i lt ∙ same (at + i) (omega arith) (omega arith) ∙ sym (segment-get_or at k r 0 i lt))

-- ---- where blocks begin

-- behind the last block
pub begin-end : (at : ℕ) (blocks : List (List ℕ)) → begin_of at blocks (length blocks) ≡ at + length (flatten blocks)
begin-end at blocks = ap (λ (ls : List (List ℕ)). at + total (map length ls)) (take-length blocks) ∙ ap (λ (k : ℕ). at + k) (total-lengths blocks)

-- the first block begins where all begin
pub begin-first : (at : ℕ) (blocks : List (List ℕ)) → begin_of at blocks 0 ≡ at
begin-first at blocks = add-zero at

-- the blocks behind the first one begin where it ends
pub begin-later : (at : ℕ) (b : List ℕ) (blocks : List (List ℕ)) (c : ℕ) → begin_of at (b ∷ blocks) (suc c) ≡ begin_of (at + length b) blocks c
begin-later at b blocks c = omega arith

-- blocks that follow change nothing
pub begin-front : (at : ℕ) (xs ys : List (List ℕ)) (c : ℕ) → c ≤ length xs → begin_of at (xs ++ ys) c ≡ begin_of at xs c
begin-front at xs ys c h = ap (λ (ls : List (List ℕ)). at + total (map length ls)) (take-append-le c xs ys h)

-- each block begins before the place where the last one ends
pub begin-before : (at : ℕ) (blocks : List (List ℕ)) → All (λ b. 0 < length b) blocks → (c : ℕ) → c < length blocks → begin_of at blocks c < at + length (flatten blocks)
begin-before at [] full c h = absurd (omega arith)
begin-before at (b ∷ blocks) full zero h = omega (arith, full.0, ap length (flatten_cons b blocks), length-append b (flatten blocks))
begin-before at (b ∷ blocks) full (suc c) h =
    omega (arith, begin-before (at + length b) blocks full.1 c (omega arith), ap length (flatten_cons b blocks), length-append b (flatten blocks))

-- A list holds just the places where blocks begin.
pub record Firsts (at : ℕ) (blocks : List (List ℕ)) (places : List ℕ) : Type 0 where
  pub each : (c : ℕ) → c < length blocks → is_in (begin_of at blocks c) places ≡ true
  pub only : (v : ℕ) → is_in v places ≡ true → (c : ℕ) × (c < length blocks) × (v ≡ begin_of at blocks c)

-- the places that are noted, without the one behind the last block
pub firsts : (at : ℕ) (blocks : List (List ℕ)) (begins : List ℕ) (count : ℕ) → count ≡ length blocks → count ≤ length begins → Begins at blocks begins → Firsts at blocks (take count begins)
firsts at blocks begins count many long begin =
    let size : length (take count begins) ≡ count = length-take-le count begins long in
    record {
      each = λ c h.
          let lt : c < count = omega arith in
          rw (sym (get_or-take count begins c 0 lt ∙ begin c (omega arith))) (is_in-get_or (take count begins) c 0 (omega arith));
      only = λ v h.
          let c : ℕ = index_of v (take count begins) in
          let lt : c < length (take count begins) = index_of_lt (take count begins) v h in
          (c, omega arith, sym (get_or-index_of (take count begins) v 0 lt) ∙ get_or-take count begins c 0 (omega arith) ∙ begin c (omega arith));
    }

-- ---- heads

-- A block of a size stands from place `at`: its parent at its first place, `inner` at the others.
pub record Block (at size parent : ℕ) (heads : List ℕ) : Type 0 where
  pub first : get_or heads at 0 ≡ parent
  pub rest : (i : ℕ) → at < i → i < at + size → get_or heads i 0 ≡ inner

-- so these are the heads there
pub block_heads : (at size parent : ℕ) (heads : List ℕ) → 0 < size → at + size ≤ length heads → Block at size parent heads
    → take size (drop at heads) ≡ parent ∷ replicate (size - 1) inner
block_heads at size parent heads some fits b =
    let long : length (take size (drop at heads)) ≡ size = segment-long at size heads fits in
    ext_get_or 0 (take size (drop at heads)) (parent ∷ replicate (size - 1) inner) (omega (arith, long, length-replicate {A = ℕ} (size - 1) inner)) go
  where
    go : (i : ℕ) → i < length (take size (drop at heads)) → get_or (take size (drop at heads)) i 0 ≡ get_or (parent ∷ replicate (size - 1) inner) i 0
    go zero h = segment-get_or at size heads 0 0 some ∙ ap (λ (k : ℕ). get_or heads k 0) (add-zero at) ∙ b.first
    go (suc i) h =
        let lt : suc i < size = omega (arith, segment-long at size heads fits) in
        segment-get_or at size heads 0 (suc i) lt ∙ b.rest (at + suc i) (omega arith) (omega arith) ∙ sym (get_or-replicate (size - 1) i inner 0 (omega arith))

-- and a block whose heads these are stands there
pub heads_block : (size parent : ℕ) (heads xs zs : List ℕ) (n : ℕ) → 0 < size → take n heads ≡ xs ++ ((parent ∷ replicate (size - 1) inner) ++ zs)
    → Block (length xs) size parent heads
heads_block size parent heads xs zs n some e =
    let ys : List ℕ = parent ∷ replicate (size - 1) inner in
    let many : length ys ≡ size = omega (arith, length-replicate {A = ℕ} (size - 1) inner) in
    let there : take size (drop (length xs) heads) ≡ ys = ap (λ (k : ℕ). take k (drop (length xs) heads)) (sym many) ∙ segment_of n heads xs ys zs e in
    record {
      first = ap (λ (k : ℕ). get_or heads k 0) (sym (add-zero (length xs))) ∙ sym (segment-get_or (length xs) size heads 0 0 some) ∙ ap (λ (l : List ℕ). get_or l 0 0) there;
      rest = λ i lt fits.
          let k : ℕ = i - length xs - 1 in
          let at : i ≡ length xs + suc k = omega arith in
          ap (λ (k : ℕ). get_or heads k 0) at ∙ sym (segment-get_or (length xs) size heads 0 (suc k) (omega arith)) ∙ ap (λ (l : List ℕ). get_or l (suc k) 0) there
          ∙ get_or-replicate (size - 1) k inner 0 (omega arith);
    }

-- The heads of blocks that all have one parent stand from place `at`.
pub record Headed (at : ℕ) (blocks : List (List ℕ)) (parent : ℕ) (heads : List ℕ) : Type 0 where
  pub first : (c : ℕ) → c < length blocks → get_or heads (begin_of at blocks c) 0 ≡ parent
  pub rest : (i : ℕ) → at ≤ i → i < at + length (flatten blocks) → ((c : ℕ) → c < length blocks → i ≢ begin_of at blocks c) → get_or heads i 0 ≡ inner

-- the blocks behind the first one
headed_later : (at : ℕ) (b : List ℕ) (blocks : List (List ℕ)) (parent : ℕ) (heads : List ℕ) → 0 < length b → Headed at (b ∷ blocks) parent heads → Headed (at + length b) blocks parent heads
headed_later at b blocks parent heads some h = record {
  first = λ c lt. ap (λ (i : ℕ). get_or heads i 0) (sym (begin-later at b blocks c)) ∙ h.first (suc c) (omega arith);
  rest = λ i low high none. h.rest i (omega arith) (omega (arith, ap length (flatten_cons b blocks), length-append b (flatten blocks))) (go i low none);
}
  where
    go : (i : ℕ) → at + length b ≤ i → ((c : ℕ) → c < length blocks → i ≢ begin_of (at + length b) blocks c) → (c : ℕ) → c < length (b ∷ blocks) → i ≢ begin_of at (b ∷ blocks) c
    go i low none zero lt e = omega arith
    go i low none (suc c) lt e = none c (omega arith) (e ∙ begin-later at b blocks c)

-- the first block
headed_first : (at : ℕ) (b : List ℕ) (blocks : List (List ℕ)) (parent : ℕ) (heads : List ℕ) → Headed at (b ∷ blocks) parent heads → Block at (length b) parent heads
headed_first at b blocks parent heads h = record {
  first = ap (λ (i : ℕ). get_or heads i 0) (sym (begin-first at (b ∷ blocks))) ∙ h.first 0 (omega arith);
  rest = λ i low high. h.rest i (omega arith) (omega (arith, ap length (flatten_cons b blocks), length-append b (flatten blocks))) (go i low high);
}
  where
    go : (i : ℕ) → at < i → i < at + length b → (c : ℕ) → c < length (b ∷ blocks) → i ≢ begin_of at (b ∷ blocks) c
    go i low high zero lt e = omega arith
    go i low high (suc c) lt e = omega arith

-- so these are the heads there
pub headed_heads : (blocks : List (List ℕ)) (at parent : ℕ) (heads : List ℕ) → All (λ b. 0 < length b) blocks → at + length (flatten blocks) ≤ length heads
    → Headed at blocks parent heads → take (length (flatten blocks)) (drop at heads) ≡ heads_of blocks (replicate (length blocks) parent)
headed_heads [] at parent heads full fits h = ap (λ (k : ℕ). take k (drop at heads)) (ap length flatten_nil)
headed_heads (b ∷ blocks) at parent heads full fits h =
    let size : length (flatten (b ∷ blocks)) ≡ length b + length (flatten blocks) = ap length (flatten_cons b blocks) ∙ length-append b (flatten blocks) in
    ap (λ (k : ℕ). take k (drop at heads)) size
    ∙ segment_two at (length b) (length (flatten blocks)) heads
    ∙ ap₂ (λ (xs ys : List ℕ). xs ++ ys)
    (block_heads at (length b) parent heads full.0 (omega arith) (headed_first at b blocks parent heads h))
    (headed_heads blocks (at + length b) parent heads full.1 (omega arith) (headed_later at b blocks parent heads full.0 h))

-- marking the places where they begin, where no block began behind the first place
pub marked_headed : (at : ℕ) (blocks : List (List ℕ)) (parent : ℕ) (places old new : List ℕ) → Firsts at blocks places
    → ((i : ℕ) → at < i → i < at + length (flatten blocks) → get_or old i 0 ≡ inner)
    → ((i : ℕ) → at ≤ i → i < at + length (flatten blocks) → get_or new i 0 ≡ cond (is_in i places) parent (get_or old i 0))
    → All (λ b. 0 < length b) blocks → Headed at blocks parent new
marked_headed at blocks parent places old new f free marks full = record {
  first = λ c lt.
      let i : ℕ = begin_of at blocks c in
      marks i (omega arith) (begin-before at blocks full c lt) ∙ cond_true (is_in i places) parent (get_or old i 0) (f.each c lt);
  rest = λ i low high none.
      let out : is_in i places ≡ false = refuted (is_in i places) (λ t. let w = f.only i t in none w.0 w.1 w.2) in
      let some : 0 < length blocks = blocks_some blocks (omega arith) in
      let later : i ≢ at = λ e. none 0 some (e ∙ sym (begin-first at blocks)) in
      marks i low high ∙ cond_false (is_in i places) parent (get_or old i 0) out ∙ free i (omega arith) high;
}
  where
    blocks_some : (ls : List (List ℕ)) → 0 < length (flatten ls) → 0 < length ls
    blocks_some [] h = absurd (omega (arith, ap length (flatten_nil {A = ℕ})))
    blocks_some (l ∷ ls) h = omega arith

-- heads of blocks, then of further ones
pub heads_append : (xs ys : List (List ℕ)) (ps qs : List ℕ) → length xs ≡ length ps → heads_of (xs ++ ys) (ps ++ qs) ≡ heads_of xs ps ++ heads_of ys qs
heads_append [] ys [] qs h = refl
heads_append [] ys (p ∷ ps) qs h = absurd (omega arith)
heads_append (x ∷ xs) ys [] qs h = absurd (omega arith)
heads_append (x ∷ xs) ys (p ∷ ps) qs h =
    ap (λ (l : List ℕ). (p ∷ replicate (length x - 1) inner) ++ l) (heads_append xs ys ps qs (omega arith))
    ∙ sym (append_assoc (p ∷ replicate (length x - 1) inner) (heads_of xs ps) (heads_of ys qs))

-- there is a head for each node
pub heads_long_lem : (xs : List (List ℕ)) (ps : List ℕ) → All (λ b. 0 < length b) xs → length xs ≡ length ps → length (heads_of xs ps) ≡ length (flatten xs)
heads_long_lem [] ps full h = sym (ap length flatten_nil)
heads_long_lem (x ∷ xs) [] full h = absurd (omega arith)
heads_long_lem (x ∷ xs) (p ∷ ps) full h =
    omega (
      arith,
      full.0,
      heads_long_lem xs ps full.1 (omega arith),
      length-append (p ∷ replicate (length x - 1) inner) (heads_of xs ps),
      length-replicate {A = ℕ} (length x - 1) inner,
      ap length (flatten_cons x xs),
      length-append x (flatten xs),
    )

-- the first head is the first parent
pub heads_first : (xs : List (List ℕ)) (ps zs : List ℕ) → 0 < length ps → length xs ≡ length ps → get_or (heads_of xs ps ++ zs) 0 0 ≡ get_or ps 0 0
heads_first xs [] zs some h = absurd (omega arith)
heads_first [] (p ∷ ps) zs some h = absurd (omega arith)
heads_first (x ∷ xs) (p ∷ ps) zs some h = refl

-- ---- the heads of a block that is divided

-- A block with the parent p stands behind the heads hs, and blocks and a part make up its nodes. The places where the blocks begin are marked with
-- the parent k, and the place behind them with p.
module _ (n k p : ℕ) (heads marked hs zs r part : List ℕ) (blocks : List (List ℕ)) (places : List ℕ)
    (held : take n heads ≡ hs ++ ((p ∷ replicate (length r - 1) inner) ++ zs)) (long : n ≤ length heads) (same : length marked ≡ length heads)
    (size : length (flatten blocks) + length part ≡ length r) (some : 0 < length part) (full : All (λ b. 0 < length b) blocks)
    (f : Firsts (length hs) blocks places) (mark : Renumbered (λ _. k) places heads marked) where
  -- where the part begins
  abbrev part_at : ℕ
  part_at = length hs + length (flatten blocks)

  -- the heads then
  abbrev new : List ℕ
  new = set marked part_at p

  -- as many as before
  new_long : length new ≡ length heads
  new_long = length-set marked part_at p ∙ same

  -- the nodes in four segments
  all-long : n ≡ length hs + (length (flatten blocks) + (length part + length zs))
  all-long =
      omega (
        arith,
        length-take-le n heads long,
        ap length held,
        length-append hs ((p ∷ replicate (length r - 1) inner) ++ zs),
        length-append (p ∷ replicate (length r - 1) inner) zs,
        length-replicate {A = ℕ} (length r - 1) inner,
      )

  -- at another place than the part's the marks are as they were set
  new_other : (i : ℕ) → i ≢ part_at → get_or new i 0 ≡ cond (is_in i places) k (get_or heads i 0)
  new_other i ne = get_or-set_other marked part_at i p 0 ne ∙ mark i

  -- where no block and not the part begins nothing is changed
  new_kept : (i : ℕ) → i ≢ part_at → ((c : ℕ) → c < length blocks → i ≢ begin_of (length hs) blocks c) → get_or new i 0 ≡ get_or heads i 0
  new_kept i ne none =
      let out : is_in i places ≡ false = refuted (is_in i places) (λ t. let w = f.only i t in none w.0 w.1 w.2) in
      new_other i ne ∙ cond_false (is_in i places) k (get_or heads i 0) out

  -- the block as it stood
  old_block : Block (length hs) (length r) p heads
  old_block = heads_block (length r) p heads hs zs n (omega arith) held

  -- before the block
  front_stays : take (length hs) new ≡ hs
  front_stays =
      segment-same 0 (length hs) new heads (omega (arith, new_long, all-long)) (omega (arith, all-long))
      (λ i low high. new_kept i (λ e. omega arith) (λ c lt e. omega arith))
      ∙ segment_of n heads [] hs ((p ∷ replicate (length r - 1) inner) ++ zs) held

  -- the blocks
  blocks_new : take (length (flatten blocks)) (drop (length hs) new) ≡ heads_of blocks (replicate (length blocks) k)
  blocks_new =
      headed_heads blocks (length hs) k new full (omega (arith, new_long, all-long))
      (marked_headed (length hs) blocks k places heads new f
      (λ i low high. old_block.rest i low (omega arith))
      (λ i low high. new_other i (λ e. omega arith))
      full)

  -- the part
  part_new : take (length part) (drop part_at new) ≡ p ∷ replicate (length part - 1) inner
  part_new =
      block_heads part_at (length part) p new some (omega (arith, new_long, all-long))
      record {
        first = get_or-set_same marked part_at p 0 (omega (arith, all-long));
        rest = λ i low high.
            new_kept i (λ e. omega arith) (λ c lt e. omega (arith, begin-before (length hs) blocks full c lt))
            ∙ old_block.rest i (omega arith) (omega arith);
      }

  -- behind the block
  rest_stays : take (length zs) (drop (part_at + length part) new) ≡ zs
  rest_stays =
      let ys : List ℕ = p ∷ replicate (length r - 1) inner in
      let at : part_at + length part ≡ length (hs ++ ys) = omega (arith, length-append hs ys, length-replicate {A = ℕ} (length r - 1) inner) in
      segment-same (part_at + length part) (length zs) new heads (omega (arith, new_long, all-long)) (omega (arith, all-long))
      (λ i low high. new_kept i (λ e. omega arith) (λ c lt e. omega (arith, begin-before (length hs) blocks full c lt)))
      ∙ ap (λ (k : ℕ). take (length zs) (drop k heads)) at
      ∙ segment_of n heads (hs ++ ys) zs [] (held ∙ simp (append_assoc, append-nil))

  -- so these are the heads
  pub heads_divided : take n (set marked (length hs + length (flatten blocks)) p) ≡ hs ++ (heads_of blocks (replicate (length blocks) k) ++ ((p ∷ replicate (length part - 1) inner) ++ zs))
  heads_divided =
      ap (λ (n : ℕ). take n new) all-long
      ∙ take-add (length hs) (length (flatten blocks) + (length part + length zs)) new
      ∙ ap₂ (λ (xs ys : List ℕ). xs ++ ys) front_stays
      (segment_two (length hs) (length (flatten blocks)) (length part + length zs) new
      ∙ ap₂ (λ (xs ys : List ℕ). xs ++ ys) blocks_new
      (segment_two part_at (length part) (length zs) new
      ∙ ap₂ (λ (xs ys : List ℕ). xs ++ ys) part_new rest_stays))

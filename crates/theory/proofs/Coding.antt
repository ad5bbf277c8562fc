-- Little-endian numbers in bytes: lists of them, and the way from numbers to bytes and back.
use mathlib.Core.Path.{◌≡◌, refl, sym, ap, ◌∙◌}
use mathlib.Core.Logic.{inl, inr}
use mathlib.Core.Bool.{true}
use mathlib.Core.List.{List, [], ◌∷◌, ◌++◌, map, flatten, map-append, map-map, append_assoc}
use Prim.Native.Nat.{ℕ, zero, suc, ◌+◌, ◌-◌, ◌*◌, ◌/◌, ◌%◌, ◌≤◌, ◌<◌}
use native.Mathlib.Nat.{zero-add, add-zero}
use native.Mathlib.Numerals.{add-one}
use native.Mathlib.Omega.{arith}
use lib.Dec.{ltb}
use lib.ListN.{length, get_or, take, drop, get_or-eq_default}
use lib.Seq.{drop-cons, drop-drop, drop_at, get_or-drop}
use borrow.Author.Tests.{ltb-true}
use Rattle.plan.specs.Lists.{every, segment, below, is_in, written}
use Rattle.plan.specs.File.{encode16, encode32, encode16s, decode16, decode32, decode16s}
use Rattle.theory.proofs.Bools.{lt_or_le}
use Rattle.theory.proofs.Lists.{is_in-head, is_in_tail, is_in-get_or, every-is_in}
use Rattle.theory.proofs.Segments.{segment-none, segment-append}
use Rattle.theory.proofs.Written.{Reached}
use Rattle.theory.proofs.Ranges.{up_from_snoc, get_or-map-below, length-map-up_from, map-up_from_suc, map_ext_up_from, map-get_or}
use Rattle.theory.proofs.Flatten.{flatten_nil, flatten_cons, blocks, blocks_more, blocks_length}

-- ---- numbers read from bytes, one after the other

module _ (bytes : List ℕ) (at apart : ℕ) where
  -- as many as were asked for
  pub decode16s-length : (count : ℕ) → length (decode16s bytes at apart count) ≡ count
  unfolding decode16s
  decode16s-length count = length-map-up_from (λ k. decode16 bytes (at + apart * k)) count 0

  -- each stands at its place
  pub decode16s-get_or : (count k : ℕ) → k < count → get_or (decode16s bytes at apart count) k 0 ≡ decode16 bytes (at + apart * k)
  unfolding decode16s
  decode16s-get_or count k lt = get_or-map-below (λ k. decode16 bytes (at + apart * k)) 0 count k lt

  -- the first, and those after it
  decode16s_cons : (count : ℕ) → decode16s bytes at apart (suc count) ≡ decode16 bytes at ∷ decode16s bytes (at + apart) apart count
  unfolding decode16s
  decode16s_cons count =
      let f : ℕ → ℕ = λ k. decode16 bytes (at + apart * k) in
      let first : at + apart * 0 ≡ at = omega arith in
      rw first
      (ap (λ (l : List ℕ). decode16 bytes at ∷ l)
      (map-up_from_suc f count 0
      ∙ map_ext_up_from (λ k. f (suc k)) (λ k. decode16 bytes (at + apart + apart * k)) count 0 (λ k l m. ap (decode16 bytes) (omega arith))))

  -- one more at the end
  pub decode16s_push : (count : ℕ) → decode16s bytes at apart (suc count) ≡ decode16s bytes at apart count ++ (decode16 bytes (at + apart * count) ∷ [])
  unfolding decode16s
  decode16s_push count =
      let f : ℕ → ℕ = λ k. decode16 bytes (at + apart * k) in
      ap (map f) (up_from_snoc 0 count) ∙ map-append f (below count) ((0 + count) ∷ []) ∙ ap (λ (k : ℕ). map f (below count) ++ (f k ∷ [])) (zero-add count)

-- ---- numbers written as bytes, one after the other

-- two bytes
pub encode16-length : (x : ℕ) → length (encode16 x) ≡ 2
unfolding encode16
encode16-length x = refl

-- two bytes each
pub encode16s-length : (l : List ℕ) → length (encode16s l) ≡ 2 * length l
unfolding encode16s
encode16s-length l = blocks_length encode16 2 encode16-length l

-- numbers made from 0 on are blocks of two bytes
pub made_blocks : (g : ℕ → ℕ) (k : ℕ) → encode16s (map g (below k)) ≡ blocks (λ i. encode16 (g i)) k
unfolding encode16s
made_blocks g k = ap flatten (map-map encode16 g (below k))

-- and so are any
pub encode16s_blocks : (l : List ℕ) → encode16s l ≡ blocks (λ i. encode16 (get_or l i 0)) (length l)
encode16s_blocks l = ap encode16s (sym (map-get_or l)) ∙ made_blocks (λ i. get_or l i 0) (length l)

-- ---- such blocks at the front of a buffer

-- the buffer held `found`, and has the first k of n blocks of w bytes
pub record Blocks (f : ℕ → List ℕ) (w n : ℕ) (found buffer : List ℕ) (k : ℕ) : Type 0 where
  pub few : k ≤ n
  pub reached : Reached found (blocks f k) buffer (w * k)

-- none yet
pub blocks_none : (f : ℕ → List ℕ) (w n : ℕ) (found : List ℕ) → Blocks f w n found found 0
blocks_none f w n found = record { few = omega arith; reached = record { front = rw flatten_nil; many = rw flatten_nil (omega arith) } }

-- one more
pub blocks_next : (f : ℕ → List ℕ) (w n : ℕ) (found buffer : List ℕ) (k : ℕ) → k < n → Reached found (blocks f k ++ f k) buffer (w * k + w) → Blocks f w n found buffer (k + 1)
blocks_next f w n found buffer k lt r = record {
  few = omega arith;
  reached = rw add-one (record { front = rw (blocks_more f k) r.front; many = rw (blocks_more f k) (r.many ∙ omega arith) });
}

-- all of them
pub blocks_all : (f : ℕ → List ℕ) (w n : ℕ) (found buffer : List ℕ) (k : ℕ) → n ≤ k → Blocks f w n found buffer k → buffer ≡ written (blocks f n) found
blocks_all f w n found buffer k le b =
    let e : k ≡ n = omega (arith, b.few) in
    b.reached.front ∙ ap (λ (i : ℕ). written (blocks f i) found) e

-- ---- from numbers to bytes and back

-- a number of 16 bits from its low and its high byte
two_bytes : (x : ℕ) → x < 65536 → x % 256 + 256 * (x / 256 % 256) ≡ x
two_bytes x h = omega arith

-- any number from its low 16 bits and the others
two_words : (x : ℕ) → x % 65536 + 65536 * (x / 65536) ≡ x
two_words x = omega arith

-- the number at place at + k is the one at place k of what stands from `at` on
pub decode16-drop : (bytes : List ℕ) (at k : ℕ) → decode16 bytes (at + k) ≡ decode16 (drop at bytes) k
unfolding decode16
decode16-drop bytes at k =
    let next : at + k + 1 ≡ at + (k + 1) = omega arith in
    rw (get_or-drop at bytes k 0, get_or-drop at bytes (k + 1) 0, next)

pub decode32-drop : (bytes : List ℕ) (at : ℕ) → decode32 bytes at ≡ decode32 (drop at bytes) 0
unfolding decode32
decode32-drop bytes at =
    let here : at + 0 ≡ at = add-zero at in
    rw (← decode16-drop bytes at 0, ← decode16-drop bytes at 2, here)

-- the same for a list of numbers
pub decode16s-drop : (bytes : List ℕ) (at apart count : ℕ) → decode16s bytes at apart count ≡ decode16s (drop at bytes) 0 apart count
unfolding decode16s
decode16s-drop bytes at apart count =
    map_ext_up_from (λ k. decode16 bytes (at + apart * k)) (λ k. decode16 (drop at bytes) (0 + apart * k)) count 0
    (λ k l m. decode16-drop bytes at (apart * k) ∙ ap (decode16 (drop at bytes)) (sym (zero-add (apart * k))))

-- a number of 16 bits is its two bytes
pub encoded16 : (x : ℕ) (rest : List ℕ) → x < 65536 → decode16 (encode16 x ++ rest) 0 ≡ x
unfolding encode16 decode16
encoded16 x rest h = two_bytes x h

-- and one of 32 bits its four
pub encoded32 : (x : ℕ) (rest : List ℕ) → x < 4294967296 → decode32 (encode32 x ++ rest) 0 ≡ x
unfolding encode32 encode16 decode32 decode16
encoded32 x rest h = rw (two_bytes (x % 65536) (omega arith), two_bytes (x / 65536) (omega arith)) (two_words x)

-- Blocks one after the other, each of w bytes, made from the elements of a list: what each says at its byte k, together, is one list.
pub decode_blocks : (f : ℕ → List ℕ) (g : ℕ → ℕ) (w k : ℕ) (bytes : List ℕ) → ((x : ℕ) → length (f x) ≡ w)
    → (l rest : List ℕ) (at : ℕ) → ((x : ℕ) → is_in x l ≡ true → (behind : List ℕ) → decode16 (f x ++ behind) k ≡ g x) → drop at bytes ≡ flatten (map f l) ++ rest
    → decode16s bytes (at + k) w (length l) ≡ map g l
decode_blocks f g w k bytes wide [] rest at each e = unfold decode16s in refl
decode_blocks f g w k bytes wide (x ∷ l) rest at each e =
    let others : List ℕ = flatten (map f l) ++ rest in
    let here : drop at bytes ≡ f x ++ others = e ∙ ap (λ (t : List ℕ). t ++ rest) (flatten_cons (f x) (map f l)) ∙ append_assoc (f x) (flatten (map f l)) rest in
    let next : drop (at + w) bytes ≡ others = sym (drop-drop w at bytes) ∙ ap (drop w) here ∙ drop_at (f x) others w (wide x) in
    let first : decode16 bytes (at + k) ≡ g x = decode16-drop bytes at k ∙ ap (λ (t : List ℕ). decode16 t k) here ∙ each x (is_in-head x l) others in
    let moved : at + k + w ≡ at + w + k = omega arith in
    rw (decode16s_cons bytes (at + k) w (length l), first, moved, decode_blocks f g w k bytes wide l rest (at + w) (λ y m. each y (is_in_tail y x l m)) next)

-- ---- from bytes to numbers and back

-- the two bytes of a number of 16 bits
bytes_of : (a b : ℕ) → a < 256 → b < 256 → encode16 (a + 256 * b) ≡ a ∷ b ∷ []
unfolding encode16
bytes_of a b h k =
    let low : (a + 256 * b) % 256 ≡ a = omega arith in
    let high : (a + 256 * b) / 256 ≡ b = omega arith in
    let few : b % 256 ≡ b = omega arith in
    rw (low, high, few)

module _ (bytes : List ℕ) (small : every (λ b. ltb b 256) bytes ≡ true) where
  -- each is a byte
  byte : (i : ℕ) → get_or bytes i 0 < 256
  byte i = elim (lt_or_le i (length bytes)) [
    | inl l ↦ ltb-true (get_or bytes i 0) 256 (every-is_in (λ b. ltb b 256) bytes small (get_or bytes i 0) (is_in-get_or bytes i 0 l))
    | inr l ↦ omega (arith, get_or-eq_default bytes 0 l)
  ]

  -- two bytes are those of the number that they say
  pub decoded16 : (at : ℕ) → at + 2 ≤ length bytes → encode16 (decode16 bytes at) ≡ segment bytes at (at + 2)
  unfolding decode16
  decoded16 at h =
      let next : suc at ≡ at + 1 = omega arith in
      let two : at + 2 - at ≡ 2 = omega arith in
      bytes_of (get_or bytes at 0) (get_or bytes (at + 1) 0) (byte at) (byte (at + 1))
      ∙ sym (ap (λ (k : ℕ). take k (drop at bytes)) two
      ∙ ap (take 2) (drop-cons bytes at 0 (omega arith) ∙ ap (λ (k : ℕ). get_or bytes at 0 ∷ drop k bytes) next ∙ ap (λ (l : List ℕ). get_or bytes at 0 ∷ l) (drop-cons bytes (at + 1) 0 (omega arith))))

  -- four are those of the two numbers that they say
  pub decoded_pair : (at : ℕ) → at + 4 ≤ length bytes → encode16 (decode16 bytes at) ++ encode16 (decode16 bytes (at + 2)) ≡ segment bytes at (at + 4)
  decoded_pair at h =
      let four : at + 4 ≡ at + 2 + 2 = omega arith in
      rw (decoded16 at (omega arith), decoded16 (at + 2) (omega arith), four, ← segment-append bytes at (at + 2) (at + 2 + 2) (omega arith) (omega arith))

  -- and of the one of 32 bits
  pub decoded32 : (at : ℕ) → at + 4 ≤ length bytes → encode32 (decode32 bytes at) ≡ segment bytes at (at + 4)
  unfolding encode32 decode32
  decoded32 at h =
      let u : ℕ = decode16 bytes at in
      let v : ℕ = decode16 bytes (at + 2) in
      let few : u < 65536 = unfold decode16 in omega (arith, byte at, byte (at + 1)) in
      let low : (u + 65536 * v) % 65536 ≡ u = omega arith in
      let high : (u + 65536 * v) / 65536 ≡ v = omega arith in
      rw (low, high) (decoded_pair at h)

-- blocks of w bytes that are segments of a list, one after the other, are one segment of it
pub segment_blocks : (f : ℕ → List ℕ) (w : ℕ) (bytes : List ℕ) (at count : ℕ) → ((k : ℕ) → k < count → f k ≡ segment bytes (at + w * k) (at + w * k + w))
    → blocks f count ≡ segment bytes at (at + w * count)
segment_blocks f w bytes at zero each =
    let none : at + w * 0 ≡ at = omega arith in
    rw (none, segment-none bytes at) flatten_nil
segment_blocks f w bytes at (suc count) each =
    let more : at + w * suc count ≡ at + w * count + w = omega arith in
    blocks_more f count
    ∙ rw (each count (omega arith), segment_blocks f w bytes at count (λ k l. each k (omega arith)), more)
    (sym (segment-append bytes at (at + w * count) (at + w * count + w) (omega arith) (omega arith)))

-- numbers of 16 bits one after the other are the bytes that say them
pub decoded16s : (bytes : List ℕ) → every (λ b. ltb b 256) bytes ≡ true → (at count : ℕ) → at + 2 * count ≤ length bytes
    → encode16s (decode16s bytes at 2 count) ≡ segment bytes at (at + 2 * count)
unfolding decode16s
decoded16s bytes small at count h =
    made_blocks (λ k. decode16 bytes (at + 2 * k)) count
    ∙ segment_blocks (λ k. encode16 (decode16 bytes (at + 2 * k))) 2 bytes at count (λ k l. decoded16 bytes small (at + 2 * k) (omega arith))

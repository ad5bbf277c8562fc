-- One row k of a column at work: what is subtracted in the slots of column k, what is asked for it, and where these slots are known to be.
use Rattle.std.specs.Prelude.{◌≡◌, Bool, true, ◌&&◌, ◌||◌, List, [], ◌∷◌, ℕ, ◌+◌, ◌-◌, ◌≤◌, ◌<◌, eqb, length, get_or, Float}
use Rattle.std.specs.Float.{nan, binary64}
use Rattle.std.specs.Float.Ieee.{mul}
use Rattle.plan.specs.Lists.{every, segment, is_in, index_of, list_at, ascending}
use Rattle.plan.specs.Factoring.{less}

-- the slot of row i in column k
unfoldable pub slot_in : List ℕ → List ℕ → ℕ → ℕ → ℕ
slot_in starts rows k i = get_or starts k 0 + index_of i (list_at starts rows k)

-- for each of some slots t, l in it times x is subtracted in the slot that its row has in column k
unfoldable pub less_down : List ℕ → List ℕ → List Float → ℕ → Float → List ℕ → List Float → List Float
less_down starts rows l k x [] values = values
less_down starts rows l k x (t ∷ ts) values =
    less_down starts rows l k x ts (less values (slot_in starts rows k (get_or rows t 0)) (mul binary64 (get_or l t nan) x))

-- what working memory keeps, from its front on, of the numbers in slots first .. to
abbrev pub Keeps : List Float → List Float → ℕ → ℕ → Type 0
Keeps kept values first to = (s : ℕ) → first ≤ s → s < to → get_or kept (s - first) nan ≡ get_or values s nan

-- the first number that 32 bits do not hold, in which a slot is noted
abbrev pub above32 : ℕ
above32 = 4294967296

-- column k holds the rows in the slots from .. to of a column that begins at `first`; both are ascending
pub record Beside (starts rows : List ℕ) (k first from to room kept : ℕ) : Type 0 where
  pub begin : first ≤ from
  pub order : from ≤ to
  pub behind : to ≤ length rows
  pub room_kept : to - first ≤ kept
  pub known : k + 1 < length starts
  pub rising : get_or starts k 0 ≤ get_or starts (k + 1) 0
  pub inside : get_or starts (k + 1) 0 ≤ length rows
  pub filled : length rows ≡ room
  pub few : length rows < above32
  pub upper : ascending (segment rows from to) ≡ true
  pub lower : ascending (list_at starts rows k) ≡ true
  pub held : every (λ i. is_in i (list_at starts rows k)) (segment rows from to) ≡ true

-- whether the last row in the slots from .. to stands as far behind the first row of column k as behind the first of them
unfoldable pub along_front : List ℕ → List ℕ → ℕ → ℕ → ℕ → Bool
along_front starts rows k from to = eqb to from || eqb (get_or rows (get_or starts k 0 + (to - from) - 1) 0) (get_or rows (to - 1) 0)

-- for each slot from .. to, `places` tells the slot of its row in column k as if that column began at `base`
abbrev pub Placed : List ℕ → List ℕ → List ℕ → ℕ → ℕ → ℕ → ℕ → ℕ → Type 0
Placed places starts rows k first base from to =
    (t : ℕ) → from ≤ t → t < to → get_or places (t - first) 0 + get_or starts k 0 ≡ slot_in starts rows k (get_or rows t 0) + base

-- whether `next` is the first row of column k, which has one row more than column `next`
unfoldable pub continued : List ℕ → List ℕ → ℕ → ℕ → Bool
continued starts rows k next =
    eqb (get_or rows (get_or starts k 0) 0) next
    && eqb (get_or starts (k + 1) 0 - get_or starts k 0) (get_or starts (next + 1) 0 - get_or starts next 0 + 1)

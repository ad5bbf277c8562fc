-- Document 02, E9: plans with a factor and a vector, what solving answers and what the vector holds afterwards, and what reading the factor at a pair answers,
-- in one table; and the one statement that every row holds. A float is given by its bits, which another program computed.
use Rattle.std.specs.Prelude.{◌≡◌, refl, List, [], ◌∷◌, map, ℕ, Float}
use Rattle.std.specs.Float.{binary64}
use Rattle.std.specs.Float.Ieee.{of_bits}
use Rattle.plan.specs.declared.HeldAnswer.{HeldAnswer}
use Rattle.plan.specs.declared.HeldAnswer.TheVariants as held
use Rattle.plan.specs.Refusals.{first_fault}
use Rattle.plan.specs.Planning.{Contents, contents}
use Rattle.plan.specs.Answers.{HeldReply, held_reply}
use Rattle.plan.specs.Solving.{forward_column, forward, scaled, backward, solve_checks, solving}
use Rattle.plan.specs.Held.{held_question}
use Rattle.plan.specs.FactorCases.{filled, path, edge_of, edge, single, singles, full, gaps}
use Rattle.plan.specs.Everything.{everything}

-- ---- the kinds of rows

abbrev pub floats : List ℕ → List Float
floats bits = map (of_bits binary64) bits

-- the replies to the display question, with the kinds by their numbers: a number is held, there is no slot, and a refusal
abbrev pub held_is : ℕ → HeldReply
held_is bits = record { number = 0; kind = 1; held = of_bits binary64 bits ∷ [] }

abbrev pub none_held : HeldReply
none_held = record { number = 0; kind = 2; held = [] }

abbrev pub held_refused : ℕ → HeldReply
held_refused number = record { number = number; kind = 0; held = [] }

pub data SolveRow : Type 0 where
  -- a plan, its factor and a vector, and what the vector holds after the forward pass, the divisions and the backward pass, each from what is told before
  passes : (c : Contents) → (diagonal values vector : List ℕ) → (forwarded divided left : List ℕ) → SolveRow
  -- column starts, rows and values, a vector, and what it holds after the first column of the forward pass
  forward_first : (column_starts rows values vector : List ℕ) → (left : List ℕ) → SolveRow
  -- a plan, its factor and a vector, and the solution
  solves : (c : Contents) → (diagonal values vector : List ℕ) → (left : List ℕ) → SolveRow
  -- or the number of the refusal, which leaves the vector as found
  refuses : (c : Contents) → (diagonal values vector : List ℕ) → (refusal : ℕ) → SolveRow
  -- n, column starts and rows, both buffers and a pair, and the reply
  asks : (n : ℕ) → (column_starts rows diagonal values : List ℕ) → (a b : ℕ) → (expected : HeldReply) → SolveRow
  -- an answer, and its reply
  answers : (answer : HeldAnswer) → (expected : HeldReply) → SolveRow

-- what a row speaks of
pub data SolveFound : Type 0 where
  vectors : List (List Float) → SolveFound
  outcome : (refusal : ℕ) → (left : List Float) → SolveFound
  reply : HeldReply → SolveFound

abbrev pub computed : SolveRow → SolveFound
computed (passes c diagonal values vector forwarded divided left) =
    vectors (
    forward c.nodes c.column_starts c.rows (floats values) (floats vector)
    ∷ scaled c.nodes (floats diagonal) (floats forwarded)
    ∷ backward c.nodes c.column_starts c.rows (floats values) (floats divided)
    ∷ [])
computed (forward_first column_starts rows values vector left) = vectors (forward_column column_starts rows (floats values) 0 (floats vector) ∷ [])
computed (solves c diagonal values vector left) =
    outcome (first_fault (solve_checks c (filled diagonal values) (floats vector))) (solving c (filled diagonal values) (floats vector))
computed (refuses c diagonal values vector refusal) =
    outcome (first_fault (solve_checks c (filled diagonal values) (floats vector))) (solving c (filled diagonal values) (floats vector))
computed (asks n column_starts rows diagonal values a b expected) = reply (held_question n column_starts rows (filled diagonal values) a b)
computed (answers answer expected) = reply (held_reply answer)

abbrev pub told : SolveRow → SolveFound
told (passes c diagonal values vector forwarded divided left) = vectors (floats forwarded ∷ floats divided ∷ floats left ∷ [])
told (forward_first column_starts rows values vector left) = vectors (floats left ∷ [])
told (solves c diagonal values vector left) = outcome 0 (floats left)
told (refuses c diagonal values vector refusal) = outcome refusal (floats vector)
told (asks n column_starts rows diagonal values a b expected) = reply expected
told (answers answer expected) = reply expected

-- ---- the factors: pivots and l of three plans, as `FactorCases` has them

abbrev pub path_pivots : List ℕ
path_pivots = 0x4010666666666666 ∷ 0x400efbb2da65d851 ∷ 0x4015333333333333 ∷ 0x40111a1540b97ab0 ∷ 0x401770e2eb133509 ∷ []

abbrev pub path_lower : List ℕ
path_lower = 0x3fb4d0214d0214d0 ∷ 0x3fc7229739851414 ∷ 0xbfd21cfb2b78c135 ∷ 0x3fc0e7d95bc609a9 ∷ 0x3fb1d996b5360074 ∷ []

abbrev pub full_pivots : List ℕ
full_pivots = 0x4022333333333333 ∷ 0x4020935935935936 ∷ 0x40249da3782649de ∷ 0x4027560ab1bd34dc ∷ 0x401ce050b5345228 ∷ []

abbrev pub full_lower : List ℕ
full_lower = 0x3fa2c12c12c12c13 ∷ 0x3fb3b13b13b13b14 ∷ 0xbfc2492492492493 ∷ 0x3fb951951951951a ∷ 0x3fc9dc06f4670da0 ∷ 0xbfb10ff8f09029b2 ∷ 0x3fb39300ba57f983 ∷ 0x3f9ef45243a64ccf ∷ 0x3fb66b83caf0b7b9 ∷ 0xbfc344d1c3e032be ∷ []

abbrev pub gaps_pivots : List ℕ
gaps_pivots = 0x401d333333333333 ∷ 0x4018666666666666 ∷ 0x4022de78e3794a7e ∷ 0x4021b0e1cfb48dfc ∷ 0x4024318444aea1f8 ∷ 0x40267688fd404d72 ∷ []

abbrev pub gaps_lower : List ℕ
gaps_lower = 0x3fb88c46231188c4 ∷ 0xbfa76105d8417610 ∷ 0x3fc714fbcda3ac12 ∷ 0x3fa92e29f79b4758 ∷ 0xbfc2e29f79b47583 ∷ 0x3fb09f26472c30f0 ∷ 0x3fc2122e5680ff64 ∷ 0xbfad2e3c5952d558 ∷ 0x3f5909c2ab50012c ∷ 0x3fcca3d72049a497 ∷ 0xbfc4a0a60a57ece7 ∷ []

-- 1 to 5 on the diagonal of mesh 4 and 6 to 10 in its slots
abbrev pub shown_diagonal : List ℕ
shown_diagonal = 0x3ff0000000000000 ∷ 0x4000000000000000 ∷ 0x4008000000000000 ∷ 0x4010000000000000 ∷ 0x4014000000000000 ∷ []

abbrev pub shown_values : List ℕ
shown_values = 0x4018000000000000 ∷ 0x401c000000000000 ∷ 0x4020000000000000 ∷ 0x4022000000000000 ∷ 0x4024000000000000 ∷ []

-- ---- the table

unfoldable pub solvings : List SolveRow
solvings =
    -- numbers whose last bits tell one order of operations from another: after each pass, then whole
    passes gaps gaps_pivots gaps_lower (0xc010cccccccccccd ∷ 0xc02199999999999a ∷ 0x4011333333333333 ∷ 0x3fe3333333333333 ∷ 0x4010000000000000 ∷ 0xc00e666666666666 ∷ []) (0xc010cccccccccccd ∷ 0xc02199999999999a ∷ 0x4019289372da2919 ∷ 0x3fe3fb2da6c82f4d ∷ 0x40075ab83a626c46 ∷ 0xc011a2f921b1895e ∷ []) (0xbfe269349a4d2694 ∷ 0xbff714fbcda3ac12 ∷ 0x3fe55549af8fdea2 ∷ 0x3fb21241ae17e9f3 ∷ 0x3fd281295bc43870 ∷ 0xbfd91fdd33fef2ae ∷ []) (0xbfe3edb69c091a81 ∷ 0xbff9ded1e2adb637 ∷ 0x3fe344b059a71eac ∷ 0x3fc43c13ae29aac7 ∷ 0x3fcce94cbf9189ec ∷ 0xbfd91fdd33fef2ae ∷ [])
    ∷ solves path path_pivots path_lower (0xc01a666666666666 ∷ 0xbff8000000000000 ∷ 0xc002666666666666 ∷ 0x3fc999999999999a ∷ 0xc022000000000000 ∷ []) (0xbff9c5ed7fce4b8e ∷ 0x3f8adb0534b70a10 ∷ 0xbfcf36e534d0f89d ∷ 0xbf7238b1bae19f40 ∷ 0xbff72e8521b865e5 ∷ [])
    ∷ solves full full_pivots full_lower (0x401c666666666666 ∷ 0xc012cccccccccccd ∷ 0x3ff6666666666666 ∷ 0x402299999999999a ∷ 0x4014cccccccccccd ∷ []) (0x3feb42ea56388d36 ∷ 0xbfe3a6822a8e8d4e ∷ 0x3fb33917b3c4cbcd ∷ 0x3fef5eb4f2eccd1a ∷ 0x3feb85cf800db03e ∷ [])
    ∷ solves gaps gaps_pivots gaps_lower (0xc010cccccccccccd ∷ 0xc02199999999999a ∷ 0x4011333333333333 ∷ 0x3fe3333333333333 ∷ 0x4010000000000000 ∷ 0xc00e666666666666 ∷ []) (0xbfe3edb69c091a81 ∷ 0xbff9ded1e2adb637 ∷ 0x3fe344b059a71eac ∷ 0x3fc43c13ae29aac7 ∷ 0x3fcce94cbf9189ec ∷ 0xbfd91fdd33fef2ae ∷ [])
    -- no rows: each entry is divided by its pivot. The smallest number above zero is a pivot, and the greatest; an infinity or no number in the vector is no fault
    ∷ solves single (0x4008000000000000 ∷ []) [] (0x3ff0000000000000 ∷ []) (0x3fd5555555555555 ∷ [])
    ∷ solves singles (0x1 ∷ 0x7fefffffffffffff ∷ []) [] (0x3ff0000000000000 ∷ 0x3ff0000000000000 ∷ []) (0x7ff0000000000000 ∷ 0x4000000000000 ∷ [])
    ∷ solves singles (0x4000000000000000 ∷ 0x4010000000000000 ∷ []) [] (0x7ff0000000000000 ∷ 0x7ff8000000000000 ∷ []) (0x7ff0000000000000 ∷ 0x7ff8000000000000 ∷ [])
    -- a fused product and difference would leave no 0: forward, then backward
    ∷ solves edge (0x3ff0000000000000 ∷ 0x3ff0000000000000 ∷ []) (0x3ff0000000400000 ∷ []) (0x3ff0000000400000 ∷ 0x3ff0000000800000 ∷ []) (0x3ff0000000400000 ∷ 0x0 ∷ [])
    ∷ solves edge (0x39b0000000000000 ∷ 0x3ff0000000000000 ∷ []) (0x3ff0000000400000 ∷ []) (0x39b0000000800000 ∷ 0x3ff0000000400000 ∷ []) (0x0 ∷ 0x3ff0000000400000 ∷ [])
    -- denormals are kept: in a product, a quotient and a difference
    ∷ solves edge (0x4000000000000000 ∷ 0x3ff0000000000000 ∷ []) (0x3fe0000000000000 ∷ []) (0x3 ∷ 0x9 ∷ []) (0x8000000000000002 ∷ 0x7 ∷ [])
    -- a product with 0 is subtracted like any other: 0 times an infinity is no number, and −0 less −0 is 0
    ∷ solves edge (0x3ff0000000000000 ∷ 0x3ff0000000000000 ∷ []) (0x0 ∷ []) (0x7ff0000000000000 ∷ 0x3ff0000000000000 ∷ []) (0x7ff8000000000000 ∷ 0x7ff8000000000000 ∷ [])
    ∷ solves edge (0x3ff0000000000000 ∷ 0x3ff0000000000000 ∷ []) (0x0 ∷ []) (0x3ff0000000000000 ∷ 0x7ff0000000000000 ∷ []) (0x7ff8000000000000 ∷ 0x7ff0000000000000 ∷ [])
    ∷ solves edge (0x3ff0000000000000 ∷ 0x3ff0000000000000 ∷ []) (0xbff0000000000000 ∷ []) (0x0 ∷ 0x8000000000000000 ∷ []) (0x0 ∷ 0x0 ∷ [])
    ∷ solves edge (0x3ff0000000000000 ∷ 0x3ff0000000000000 ∷ []) (0xbff0000000000000 ∷ []) (0x8000000000000000 ∷ 0x0 ∷ []) (0x0 ∷ 0x0 ∷ [])
    -- no number as an l is no refusal
    ∷ solves edge (0x3ff0000000000000 ∷ 0x4000000000000000 ∷ []) (0x7ff8000000000000 ∷ []) (0x3ff0000000000000 ∷ 0x3ff0000000000000 ∷ []) (0x7ff8000000000000 ∷ 0x7ff8000000000000 ∷ [])
    -- slices that are longer than the plan
    ∷ solves (contents 1 2 1 1 (0 ∷ 1 ∷ 9 ∷ []) (2 ∷ 9 ∷ []) (65535 ∷ 9 ∷ []) (0 ∷ 1 ∷ 1 ∷ 0 ∷ []) (1 ∷ 0 ∷ [])) (0x4010000000000000 ∷ 0x4000000000000000 ∷ []) (0x3fe0000000000000 ∷ []) (0x3ff0000000000000 ∷ 0x4008000000000000 ∷ []) (0xbfd8000000000000 ∷ 0x3ff4000000000000 ∷ [])
    -- a row that stands twice in a column, which is refused (17), tells the order of its rows forward; where each stands once, another leaves the same bits
    ∷ forward_first (0 ∷ 2 ∷ []) (1 ∷ 1 ∷ []) (0x3ff0000000000000 ∷ 0x3ca0000000000000 ∷ []) (0x3ff0000000000000 ∷ 0x4000000000000000 ∷ []) (0x3ff0000000000000 ∷ 0x3fefffffffffffff ∷ [])
    -- 28, 13, 15 to 19, each before 29, 30 and 31; their own order is told by `FactorCases`
    ∷ refuses (contents 7 0 0 0 [] [] [] [] []) (0x0 ∷ []) [] (0x3ff0000000000000 ∷ []) 28
    ∷ refuses (contents 2 2 1 1 (0 ∷ []) (2 ∷ []) (65535 ∷ []) (0 ∷ 1 ∷ 1 ∷ []) (1 ∷ [])) (0x0 ∷ []) [] (0x3ff0000000000000 ∷ []) 13
    ∷ refuses (contents 2 2 1 1 (0 ∷ 0 ∷ []) (2 ∷ []) (65535 ∷ []) (0 ∷ 1 ∷ 1 ∷ []) (1 ∷ [])) (0x0 ∷ []) [] (0x3ff0000000000000 ∷ []) 15
    ∷ refuses (contents 2 2 1 1 (0 ∷ 1 ∷ []) (1 ∷ []) (65535 ∷ []) (0 ∷ 1 ∷ 1 ∷ []) (1 ∷ [])) (0x0 ∷ []) [] (0x3ff0000000000000 ∷ []) 16
    ∷ refuses (contents 2 2 1 1 (0 ∷ 1 ∷ []) (2 ∷ []) (65535 ∷ []) (0 ∷ 1 ∷ 1 ∷ []) (0 ∷ [])) (0x0 ∷ []) [] (0x3ff0000000000000 ∷ []) 17
    ∷ refuses (contents 2 2 2 1 (0 ∷ 1 ∷ []) (1 ∷ 1 ∷ []) (65535 ∷ 65535 ∷ []) (0 ∷ 1 ∷ 1 ∷ []) (1 ∷ [])) (0x0 ∷ []) [] (0x3ff0000000000000 ∷ []) 18
    ∷ refuses (contents 2 3 1 2 (0 ∷ 1 ∷ 2 ∷ []) (3 ∷ []) (65535 ∷ []) (0 ∷ 2 ∷ 2 ∷ 2 ∷ []) (1 ∷ 2 ∷ [])) (0x0 ∷ []) [] (0x3ff0000000000000 ∷ []) 19
    -- 29: before 30 of each buffer, and before 31
    ∷ refuses (edge_of 2) [] [] [] 29
    ∷ refuses (edge_of 2) (0x3ff0000000000000 ∷ 0x3ff0000000000000 ∷ []) (0x3ff0000000000000 ∷ []) (0x3ff0000000000000 ∷ []) 29
    ∷ refuses (edge_of 6) (0x0 ∷ 0x3ff0000000000000 ∷ []) (0x3ff0000000000000 ∷ []) (0x3ff0000000000000 ∷ 0x3ff0000000000000 ∷ []) 29
    -- 30: the diagonal, the values or the vector shorter or longer than needed, each before 31
    ∷ refuses edge (0x0 ∷ []) (0x3ff0000000000000 ∷ []) (0x3ff0000000000000 ∷ 0x3ff0000000000000 ∷ []) 30
    ∷ refuses edge (0x0 ∷ 0x3ff0000000000000 ∷ 0x3ff0000000000000 ∷ []) (0x3ff0000000000000 ∷ []) (0x3ff0000000000000 ∷ 0x3ff0000000000000 ∷ []) 30
    ∷ refuses edge (0x0 ∷ 0x3ff0000000000000 ∷ []) [] (0x3ff0000000000000 ∷ 0x3ff0000000000000 ∷ []) 30
    ∷ refuses edge (0x0 ∷ 0x3ff0000000000000 ∷ []) (0x3ff0000000000000 ∷ 0x3ff0000000000000 ∷ []) (0x3ff0000000000000 ∷ 0x3ff0000000000000 ∷ []) 30
    ∷ refuses edge (0x0 ∷ 0x3ff0000000000000 ∷ []) (0x3ff0000000000000 ∷ []) (0x3ff0000000000000 ∷ []) 30
    ∷ refuses edge (0x0 ∷ 0x3ff0000000000000 ∷ []) (0x3ff0000000000000 ∷ []) (0x3ff0000000000000 ∷ 0x3ff0000000000000 ∷ 0x3ff0000000000000 ∷ []) 30
    -- 31: no pivots at the first, the last and a middle column: 0, −0, below 0, infinities, no number; with rows and without
    ∷ refuses edge (0x0 ∷ 0x3ff0000000000000 ∷ []) (0x3fe0000000000000 ∷ []) (0x3ff0000000000000 ∷ 0x3ff0000000000000 ∷ []) 31
    ∷ refuses singles (0x3ff0000000000000 ∷ 0x8000000000000000 ∷ []) [] (0x3ff0000000000000 ∷ 0x3ff0000000000000 ∷ []) 31
    ∷ refuses path (0x3ff0000000000000 ∷ 0x3ff0000000000000 ∷ 0xbff0000000000000 ∷ 0x3ff0000000000000 ∷ 0x3ff0000000000000 ∷ []) path_lower (0xc01a666666666666 ∷ 0xbff8000000000000 ∷ 0xc002666666666666 ∷ 0x3fc999999999999a ∷ 0xc022000000000000 ∷ []) 31
    ∷ refuses singles (0x7ff0000000000000 ∷ 0x3ff0000000000000 ∷ []) [] (0x3ff0000000000000 ∷ 0x3ff0000000000000 ∷ []) 31
    ∷ refuses singles (0xfff0000000000000 ∷ 0x3ff0000000000000 ∷ []) [] (0x3ff0000000000000 ∷ 0x3ff0000000000000 ∷ []) 31
    ∷ refuses singles (0x7ff8000000000000 ∷ 0x3ff0000000000000 ∷ []) [] (0x3ff0000000000000 ∷ 0x3ff0000000000000 ∷ []) 31
    -- at a pair, in either order: in a slot, on the diagonal, no slot
    ∷ asks 5 path.column_starts path.rows shown_diagonal shown_values 2 4 (held_is 0x4022000000000000)
    ∷ asks 5 path.column_starts path.rows shown_diagonal shown_values 4 2 (held_is 0x4022000000000000)
    ∷ asks 5 path.column_starts path.rows shown_diagonal shown_values 4 4 (held_is 0x4014000000000000)
    ∷ asks 5 path.column_starts path.rows shown_diagonal shown_values 0 4 none_held
    ∷ asks 5 path.column_starts path.rows shown_diagonal shown_values 3 1 none_held
    -- what is held may be 0 or no number
    ∷ asks 2 (0 ∷ 1 ∷ 1 ∷ []) (1 ∷ []) (0x3ff0000000000000 ∷ 0x7ff8000000000000 ∷ []) (0x0 ∷ []) 0 1 (held_is 0x0)
    ∷ asks 2 (0 ∷ 1 ∷ 1 ∷ []) (1 ∷ []) (0x3ff0000000000000 ∷ 0x7ff8000000000000 ∷ []) (0x0 ∷ []) 1 1 (held_is 0x7ff8000000000000)
    -- rows behind the last start are not looked at, and no values are needed for them
    ∷ asks 2 (0 ∷ 1 ∷ 1 ∷ []) (1 ∷ 0 ∷ []) (0x3ff0000000000000 ∷ 0x4000000000000000 ∷ []) (0x4008000000000000 ∷ []) 1 0 (held_is 0x4008000000000000)
    ∷ asks 2 (0 ∷ 1 ∷ 1 ∷ []) (1 ∷ 0 ∷ []) (0x3ff0000000000000 ∷ 0x4000000000000000 ∷ []) (0x4008000000000000 ∷ 0x4010000000000000 ∷ []) 1 0 (held_refused 30)
    -- 1, 22, 30, then 21: each before the next ones, and alone
    ∷ asks 0 (1 ∷ []) [] [] [] 0 0 (held_refused 1)
    ∷ asks 2 (0 ∷ 1 ∷ []) (1 ∷ []) (0x3ff0000000000000 ∷ []) [] 2 2 (held_refused 22)
    ∷ asks 2 (0 ∷ 1 ∷ 1 ∷ []) (0 ∷ []) (0x3ff0000000000000 ∷ 0x4000000000000000 ∷ []) (0x4008000000000000 ∷ []) 1 0 (held_refused 22)
    ∷ asks 2 (0 ∷ 1 ∷ 1 ∷ []) (1 ∷ []) (0x3ff0000000000000 ∷ []) (0x4008000000000000 ∷ []) 2 0 (held_refused 30)
    ∷ asks 2 (0 ∷ 1 ∷ 1 ∷ []) (1 ∷ []) (0x3ff0000000000000 ∷ 0x4000000000000000 ∷ []) [] 0 2 (held_refused 30)
    ∷ asks 2 (0 ∷ 1 ∷ 1 ∷ []) (1 ∷ []) (0x3ff0000000000000 ∷ 0x4000000000000000 ∷ 0x4010000000000000 ∷ []) (0x4008000000000000 ∷ []) 0 0 (held_refused 30)
    ∷ asks 2 (0 ∷ 1 ∷ 1 ∷ []) (1 ∷ []) (0x3ff0000000000000 ∷ 0x4000000000000000 ∷ []) (0x4008000000000000 ∷ []) 2 0 (held_refused 21)
    ∷ asks 2 (0 ∷ 1 ∷ 1 ∷ []) (1 ∷ []) (0x3ff0000000000000 ∷ 0x4000000000000000 ∷ []) (0x4008000000000000 ∷ []) 0 2 (held_refused 21)
    ∷ asks 2 (0 ∷ 1 ∷ 1 ∷ []) (1 ∷ []) (0x3ff0000000000000 ∷ 0x4000000000000000 ∷ []) (0x4008000000000000 ∷ []) 2 2 (held_refused 21)
    -- the cases of an answer; a refusal by 0 says neither that a number is held nor that there is no slot
    ∷ answers (held.Value (of_bits binary64 0x4008000000000000)) (held_is 0x4008000000000000)
    ∷ answers held.NoSlot none_held
    ∷ answers (held.Refused 30) (held_refused 30)
    ∷ answers (held.Refused 0) (held_refused 0)
    ∷ []

-- every row holds
pub solvings_hold : map computed solvings ≡ map told solvings
unfolding everything solvings
solvings_hold = refl

-- Document 02, E8: plans filled with numbers, what factoring answers and what both buffers hold afterwards, in one table, with where subtractions aim, in
-- which order, and what stays; and the one statement that every row holds. A float is given by its bits, which another program computed.
use Rattle.std.specs.Prelude.{Bool, true, false, ◌≡◌, refl, List, [], ◌∷◌, map, ℕ, Float}
use Rattle.std.specs.Float.{binary64}
use Rattle.std.specs.Float.Ieee.{of_bits}
use Rattle.plan.specs.Planning.{Contents, contents}
use Rattle.plan.specs.Filling.{Filling, Place, on_diagonal, in_slot, no_place, place_of, held_at}
use Rattle.plan.specs.Factoring.{pairs, FactorOutcome, factoring}
use Rattle.plan.specs.FactorStatements.{aims_at_places, columns_done, after_columns, touches}
use Rattle.plan.specs.Everything.{everything}

-- ---- the kinds of rows

abbrev pub filled : List ℕ → List ℕ → Filling
filled diagonal values = record { diagonal = map (of_bits binary64) diagonal; values = map (of_bits binary64) values }

-- finished, with the smallest and the largest pivot and the operations, and what both buffers hold
abbrev pub finished : ℕ → ℕ → ℕ → List ℕ → List ℕ → FactorOutcome
finished smallest largest operations diagonal values = record {
  answer = record {
    refusal = 0;
    report = record { smallest = of_bits binary64 smallest; largest = of_bits binary64 largest; operations = operations };
  };
  filling = filled diagonal values;
}

-- refused by this number: "On every refusal the report is all zeros"
abbrev pub stopped : ℕ → List ℕ → List ℕ → FactorOutcome
stopped number diagonal values = record {
  answer = record { refusal = number; report = record { smallest = of_bits binary64 0; largest = of_bits binary64 0; operations = 0 } };
  filling = filled diagonal values;
}

pub data FactorRow : Type 0 where
  -- a plan, both buffers by their bits, and what comes of it
  fills : (c : Contents) → (diagonal values : List ℕ) → (expected : FactorOutcome) → FactorRow
  -- column starts and rows, a pair of positions, and its place
  stands : (column_starts rows : List ℕ) → (a b : ℕ) → (expected : Place) → FactorRow
  -- a place, both buffers, and the number held there
  holds : (at : Place) → (diagonal values : List ℕ) → (expected : List ℕ) → FactorRow
  -- the slots of a column, and their pairs in order
  paired : (slots : List ℕ) → (expected : List (ℕ × ℕ)) → FactorRow
  -- n, column starts and rows, and whether every subtraction aims at a place
  aims : (n : ℕ) → (column_starts rows : List ℕ) → (expected : Bool) → FactorRow
  -- a plan, both buffers, and how many columns are worked before a pivot is refused
  works : (c : Contents) → (diagonal values : List ℕ) → (expected : ℕ) → FactorRow
  -- a plan, both buffers, a column and a number of columns from there on, and what both buffers hold after them
  reaches : (c : Contents) → (diagonal values : List ℕ) → (j m : ℕ) → (expected : Filling) → FactorRow
  -- column starts and rows, a place and a column, and whether the column touches the place
  touching : (column_starts rows : List ℕ) → (at : Place) → (j : ℕ) → (expected : Bool) → FactorRow

-- what a row speaks of
pub data Found : Type 0 where
  outcome : FactorOutcome → Found
  place : Place → Found
  held : List Float → Found
  slot_pairs : List (ℕ × ℕ) → Found
  truth : Bool → Found
  number : ℕ → Found
  both : Filling → Found

abbrev pub computed : FactorRow → Found
computed (fills c diagonal values expected) = outcome (factoring c (filled diagonal values))
computed (stands column_starts rows a b expected) = place (place_of column_starts rows a b)
computed (holds at diagonal values expected) = held (held_at at (filled diagonal values))
computed (paired slots expected) = slot_pairs (pairs slots)
computed (aims n column_starts rows expected) = truth (aims_at_places n column_starts rows)
computed (works c diagonal values expected) = number (columns_done c.column_starts c.rows 0 c.nodes (filled diagonal values))
computed (reaches c diagonal values j m expected) = both (after_columns c.column_starts c.rows j m (filled diagonal values))
computed (touching column_starts rows at j expected) = truth (touches column_starts rows at j)

abbrev pub told : FactorRow → Found
told (fills c diagonal values expected) = outcome expected
told (stands column_starts rows a b expected) = place expected
told (holds at diagonal values expected) = held (map (of_bits binary64) expected)
told (paired slots expected) = slot_pairs expected
told (aims n column_starts rows expected) = truth expected
told (works c diagonal values expected) = number expected
told (reaches c diagonal values j m expected) = both expected
told (touching column_starts rows at j expected) = truth expected

-- ---- the plans

-- mesh 4 of document 01, the path 0-1-2-3-4
abbrev pub path : Contents
path = contents 1 5 3 5 (0 ∷ 1 ∷ 3 ∷ 4 ∷ 2 ∷ []) (2 ∷ 2 ∷ 1 ∷ []) (2 ∷ 2 ∷ 65535 ∷ []) (0 ∷ 1 ∷ 2 ∷ 4 ∷ 5 ∷ 5 ∷ []) (1 ∷ 4 ∷ 3 ∷ 4 ∷ 4 ∷ [])

-- one part of nodes in their own order
abbrev pub uncut : ℕ → ℕ → ℕ → List ℕ → List ℕ → List ℕ → Contents
uncut unknowns n s order column_starts rows = contents unknowns n 1 s order (n ∷ []) (65535 ∷ []) column_starts rows

-- two neighbours with so many unknowns each
abbrev pub edge_of : ℕ → Contents
edge_of unknowns = uncut unknowns 2 1 (0 ∷ 1 ∷ []) (0 ∷ 1 ∷ 1 ∷ []) (1 ∷ [])

abbrev pub edge : Contents
edge = edge_of 1

-- a node, and two that are no neighbours
abbrev pub single : Contents
single = uncut 1 1 0 (0 ∷ []) (0 ∷ 0 ∷ []) []

abbrev pub singles : Contents
singles = contents 1 2 2 0 (0 ∷ 1 ∷ []) (1 ∷ 1 ∷ []) (65535 ∷ 65535 ∷ []) (0 ∷ 0 ∷ 0 ∷ []) []

-- five nodes that are all neighbours
abbrev pub full : Contents
full = uncut 1 5 10 (0 ∷ 1 ∷ 2 ∷ 3 ∷ 4 ∷ []) (0 ∷ 4 ∷ 7 ∷ 9 ∷ 10 ∷ 10 ∷ []) (1 ∷ 2 ∷ 3 ∷ 4 ∷ 2 ∷ 3 ∷ 4 ∷ 3 ∷ 4 ∷ 4 ∷ [])

-- six nodes: column 0 skips rows that column 2 has, and column 1 others
abbrev pub gaps : Contents
gaps = uncut 1 6 11 (0 ∷ 1 ∷ 2 ∷ 3 ∷ 4 ∷ 5 ∷ []) (0 ∷ 2 ∷ 5 ∷ 8 ∷ 10 ∷ 11 ∷ 11 ∷ []) (2 ∷ 4 ∷ 2 ∷ 3 ∷ 5 ∷ 3 ∷ 4 ∷ 5 ∷ 4 ∷ 5 ∷ 5 ∷ [])

-- ---- the table

unfoldable pub factorings : List FactorRow
factorings =
    -- mesh 4 of document 01, numbers whose last bits tell one order of operations from another; "the planned count" is 11
    fills path (0x4010666666666666 ∷ 0x400f333333333333 ∷ 0x4015333333333333 ∷ 0x4012cccccccccccd ∷ 0x4018666666666666 ∷ []) (0x3fd5555555555555 ∷ 0x3fe6666666666666 ∷ 0xbff8000000000000 ∷ 0x3fe6666666666666 ∷ 0x3fb999999999999a ∷ []) (finished 0x400efbb2da65d851 0x401770e2eb133509 11 (0x4010666666666666 ∷ 0x400efbb2da65d851 ∷ 0x4015333333333333 ∷ 0x40111a1540b97ab0 ∷ 0x401770e2eb133509 ∷ []) (0x3fb4d0214d0214d0 ∷ 0x3fc7229739851414 ∷ 0xbfd21cfb2b78c135 ∷ 0x3fc0e7d95bc609a9 ∷ 0x3fb1d996b5360074 ∷ []))
    -- five nodes that are all next to one another, and six with gaps between a column's rows
    ∷ fills full (0x4022333333333333 ∷ 0x402099999999999a ∷ 0x4025666666666666 ∷ 0x4027cccccccccccd ∷ 0x401ecccccccccccd ∷ []) (0x3fd5555555555555 ∷ 0x3fe6666666666666 ∷ 0xbff4cccccccccccd ∷ 0x3feccccccccccccd ∷ 0x3ffb333333333333 ∷ 0xbfe3333333333333 ∷ 0x3fe5555555555555 ∷ 0x3fb999999999999a ∷ 0x3ff199999999999a ∷ 0xbffe666666666666 ∷ []) (finished 0x401ce050b5345228 0x4027560ab1bd34dc 30 (0x4022333333333333 ∷ 0x4020935935935936 ∷ 0x40249da3782649de ∷ 0x4027560ab1bd34dc ∷ 0x401ce050b5345228 ∷ []) (0x3fa2c12c12c12c13 ∷ 0x3fb3b13b13b13b14 ∷ 0xbfc2492492492493 ∷ 0x3fb951951951951a ∷ 0x3fc9dc06f4670da0 ∷ 0xbfb10ff8f09029b2 ∷ 0x3fb39300ba57f983 ∷ 0x3f9ef45243a64ccf ∷ 0x3fb66b83caf0b7b9 ∷ 0xbfc344d1c3e032be ∷ []))
    ∷ fills gaps (0x401d333333333333 ∷ 0x4018666666666666 ∷ 0x4023666666666666 ∷ 0x4021cccccccccccd ∷ 0x402499999999999a ∷ 0x4028333333333333 ∷ []) (0x3fe6666666666666 ∷ 0xbfd5555555555555 ∷ 0x3ff199999999999a ∷ 0x3fd3333333333333 ∷ 0xbfeccccccccccccd ∷ 0x3fe5555555555555 ∷ 0x3ff4cccccccccccd ∷ 0xbfe6666666666666 ∷ 0x3fb999999999999a ∷ 0x3ffe666666666666 ∷ 0xbffb333333333333 ∷ []) (finished 0x4018666666666666 0x40267688fd404d72 30 (0x401d333333333333 ∷ 0x4018666666666666 ∷ 0x4022de78e3794a7e ∷ 0x4021b0e1cfb48dfc ∷ 0x4024318444aea1f8 ∷ 0x40267688fd404d72 ∷ []) (0x3fb88c46231188c4 ∷ 0xbfa76105d8417610 ∷ 0x3fc714fbcda3ac12 ∷ 0x3fa92e29f79b4758 ∷ 0xbfc2e29f79b47583 ∷ 0x3fb09f26472c30f0 ∷ 0x3fc2122e5680ff64 ∷ 0xbfad2e3c5952d558 ∷ 0x3f5909c2ab50012c ∷ 0x3fcca3d72049a497 ∷ 0xbfc4a0a60a57ece7 ∷ []))
    -- a pivot 0 at column 1 of mesh 4, negative ones at columns 2 and 4: "what the definition has reached before dividing by it"
    ∷ fills path (0x4010000000000000 ∷ 0x3fd0000000000000 ∷ 0x4010000000000000 ∷ 0x4010000000000000 ∷ 0x4010000000000000 ∷ []) (0x3ff0000000000000 ∷ 0x4000000000000000 ∷ 0x4008000000000000 ∷ 0x4014000000000000 ∷ 0x401c000000000000 ∷ []) (stopped 31 (0x4010000000000000 ∷ 0x0 ∷ 0x4010000000000000 ∷ 0x4010000000000000 ∷ 0x4010000000000000 ∷ []) (0x3fd0000000000000 ∷ 0x4000000000000000 ∷ 0x4008000000000000 ∷ 0x4014000000000000 ∷ 0x401c000000000000 ∷ []))
    ∷ fills full (0x4022333333333333 ∷ 0x402099999999999a ∷ 0xc025666666666666 ∷ 0x4027cccccccccccd ∷ 0x3fd0000000000000 ∷ []) (0x3fd5555555555555 ∷ 0x3fe6666666666666 ∷ 0xbff4cccccccccccd ∷ 0x3feccccccccccccd ∷ 0x3ffb333333333333 ∷ 0xbfe3333333333333 ∷ 0x3fe5555555555555 ∷ 0x3fb999999999999a ∷ 0x3ff199999999999a ∷ 0xbffe666666666666 ∷ []) (stopped 31 (0x4022333333333333 ∷ 0x4020935935935936 ∷ 0xc0262f2954a682ee ∷ 0x40275add49a0e6d5 ∷ 0x3fbccf1aeba01d9d ∷ []) (0x3fa2c12c12c12c13 ∷ 0x3fb3b13b13b13b14 ∷ 0xbfc2492492492493 ∷ 0x3fb951951951951a ∷ 0x3fc9dc06f4670da0 ∷ 0xbfb10ff8f09029b2 ∷ 0x3fb39300ba57f983 ∷ 0x3fd3f1303ea01e95 ∷ 0x3fece348ca8ee673 ∷ 0xbffbaac5c3edb985 ∷ []))
    ∷ fills full (0x4022333333333333 ∷ 0x402099999999999a ∷ 0x4025666666666666 ∷ 0x4027cccccccccccd ∷ 0x3fd0000000000000 ∷ []) (0x3fd5555555555555 ∷ 0x3fe6666666666666 ∷ 0xbff4cccccccccccd ∷ 0x3feccccccccccccd ∷ 0x3ffb333333333333 ∷ 0xbfe3333333333333 ∷ 0x3fe5555555555555 ∷ 0x3fb999999999999a ∷ 0x3ff199999999999a ∷ 0xbffe666666666666 ∷ []) (stopped 31 (0x4022333333333333 ∷ 0x4020935935935936 ∷ 0x40249da3782649de ∷ 0x4027560ab1bd34dc ∷ 0xbfcd8f82f30f54a0 ∷ []) (0x3fa2c12c12c12c13 ∷ 0x3fb3b13b13b13b14 ∷ 0xbfc2492492492493 ∷ 0x3fb951951951951a ∷ 0x3fc9dc06f4670da0 ∷ 0xbfb10ff8f09029b2 ∷ 0x3fb39300ba57f983 ∷ 0x3f9ef45243a64ccf ∷ 0x3fb66b83caf0b7b9 ∷ 0xbfc344d1c3e032be ∷ []))
    -- "Each operation rounds once": a fused product and difference would leave another pivot than 2^-29
    ∷ fills edge (0x3ff0000000000000 ∷ 0x3ff0000001000000 ∷ []) (0x3ff0000000400000 ∷ []) (finished 0x3e20000000000000 0x3ff0000000000000 2 (0x3ff0000000000000 ∷ 0x3e20000000000000 ∷ []) (0x3ff0000000400000 ∷ []))
    -- the product is l of i times v of k: v / d × d, v × v / d, l × l × d and v × (1 / d) × v would each leave another pivot
    ∷ fills edge (0x4026000000000000 ∷ 0x3ff0000000000000 ∷ []) (0x4008cccccccccccd ∷ []) (finished 0x3fc02caf02caf02c 0x4026000000000000 2 (0x4026000000000000 ∷ 0x3fc02caf02caf02c ∷ []) (0x3fd2094f2094f209 ∷ []))
    -- denormals are kept: an l, then a product and a difference
    ∷ fills edge (0x4000000000000000 ∷ 0x3ff0000000000000 ∷ []) (0x3 ∷ []) (finished 0x3ff0000000000000 0x4000000000000000 2 (0x4000000000000000 ∷ 0x3ff0000000000000 ∷ []) (0x2 ∷ []))
    ∷ fills edge (0x3ff0000000000000 ∷ 0x10000000000000 ∷ []) (0x1ed0000000000000 ∷ []) (finished 0xfffffffffc000 0x3ff0000000000000 2 (0x3ff0000000000000 ∷ 0xfffffffffc000 ∷ []) (0x1ed0000000000000 ∷ []))
    -- no pivots: 0, −0, an infinity, no number, −1, at the first column and at the last
    ∷ fills edge (0x0 ∷ 0x3ff0000000000000 ∷ []) (0x3ff0000000000000 ∷ []) (stopped 31 (0x0 ∷ 0x3ff0000000000000 ∷ []) (0x3ff0000000000000 ∷ []))
    ∷ fills edge (0x8000000000000000 ∷ 0x3ff0000000000000 ∷ []) (0x3ff0000000000000 ∷ []) (stopped 31 (0x8000000000000000 ∷ 0x3ff0000000000000 ∷ []) (0x3ff0000000000000 ∷ []))
    ∷ fills edge (0x7ff0000000000000 ∷ 0x3ff0000000000000 ∷ []) (0x3ff0000000000000 ∷ []) (stopped 31 (0x7ff0000000000000 ∷ 0x3ff0000000000000 ∷ []) (0x3ff0000000000000 ∷ []))
    ∷ fills edge (0xfff0000000000000 ∷ 0x3ff0000000000000 ∷ []) (0x3ff0000000000000 ∷ []) (stopped 31 (0xfff0000000000000 ∷ 0x3ff0000000000000 ∷ []) (0x3ff0000000000000 ∷ []))
    ∷ fills edge (0x7ff8000000000000 ∷ 0x3ff0000000000000 ∷ []) (0x3ff0000000000000 ∷ []) (stopped 31 (0x7ff8000000000000 ∷ 0x3ff0000000000000 ∷ []) (0x3ff0000000000000 ∷ []))
    ∷ fills edge (0xbff0000000000000 ∷ 0x3ff0000000000000 ∷ []) (0x3ff0000000000000 ∷ []) (stopped 31 (0xbff0000000000000 ∷ 0x3ff0000000000000 ∷ []) (0x3ff0000000000000 ∷ []))
    ∷ fills singles (0x3ff0000000000000 ∷ 0x0 ∷ []) [] (stopped 31 (0x3ff0000000000000 ∷ 0x0 ∷ []) [])
    ∷ fills singles (0x3ff0000000000000 ∷ 0x8000000000000000 ∷ []) [] (stopped 31 (0x3ff0000000000000 ∷ 0x8000000000000000 ∷ []) [])
    ∷ fills singles (0x3ff0000000000000 ∷ 0x7ff0000000000000 ∷ []) [] (stopped 31 (0x3ff0000000000000 ∷ 0x7ff0000000000000 ∷ []) [])
    ∷ fills singles (0x3ff0000000000000 ∷ 0x7ff8000000000000 ∷ []) [] (stopped 31 (0x3ff0000000000000 ∷ 0x7ff8000000000000 ∷ []) [])
    ∷ fills singles (0x3ff0000000000000 ∷ 0x8000000000000001 ∷ []) [] (stopped 31 (0x3ff0000000000000 ∷ 0x8000000000000001 ∷ []) [])
    -- pivots: the smallest number above zero, and the greatest
    ∷ fills edge (0x1 ∷ 0x3ff0000000000000 ∷ []) (0x0 ∷ []) (finished 0x1 0x3ff0000000000000 2 (0x1 ∷ 0x3ff0000000000000 ∷ []) (0x0 ∷ []))
    ∷ fills singles (0x7fefffffffffffff ∷ 0x1 ∷ []) [] (finished 0x1 0x7fefffffffffffff 0 (0x7fefffffffffffff ∷ 0x1 ∷ []) [])
    -- a report of nothing but the smallest number above zero, and of nothing but the greatest
    ∷ fills singles (0x1 ∷ 0x1 ∷ []) [] (finished 0x1 0x1 0 (0x1 ∷ 0x1 ∷ []) [])
    ∷ fills singles (0x7fefffffffffffff ∷ 0x7fefffffffffffff ∷ []) [] (finished 0x7fefffffffffffff 0x7fefffffffffffff 0 (0x7fefffffffffffff ∷ 0x7fefffffffffffff ∷ []) [])
    -- one pivot is the smallest and the largest
    ∷ fills single (0x4008000000000000 ∷ []) [] (finished 0x4008000000000000 0x4008000000000000 0 (0x4008000000000000 ∷ []) [])
    -- numbers in slots that are refused only where they make a pivot bad; overflow and underflow on the way; −0 is kept
    ∷ fills edge (0x3ff0000000000000 ∷ 0x3ff0000000000000 ∷ []) (0x7ff0000000000000 ∷ []) (stopped 31 (0x3ff0000000000000 ∷ 0xfff0000000000000 ∷ []) (0x7ff0000000000000 ∷ []))
    ∷ fills edge (0x3ff0000000000000 ∷ 0x3ff0000000000000 ∷ []) (0x7ff8000000000000 ∷ []) (stopped 31 (0x3ff0000000000000 ∷ 0x7ff8000000000000 ∷ []) (0x7ff8000000000000 ∷ []))
    ∷ fills edge (0x1a56e1fc2f8f359 ∷ 0x3ff0000000000000 ∷ []) (0x7e37e43c8800759c ∷ []) (stopped 31 (0x1a56e1fc2f8f359 ∷ 0xfff0000000000000 ∷ []) (0x7ff0000000000000 ∷ []))
    ∷ fills edge (0x7e37e43c8800759c ∷ 0x3ff0000000000000 ∷ []) (0x1a56e1fc2f8f359 ∷ []) (finished 0x3ff0000000000000 0x7e37e43c8800759c 2 (0x7e37e43c8800759c ∷ 0x3ff0000000000000 ∷ []) (0x0 ∷ []))
    ∷ fills edge (0x4000000000000000 ∷ 0x3ff0000000000000 ∷ []) (0x1 ∷ []) (finished 0x3ff0000000000000 0x4000000000000000 2 (0x4000000000000000 ∷ 0x3ff0000000000000 ∷ []) (0x0 ∷ []))
    ∷ fills edge (0x3ff0000000000000 ∷ 0x4000000000000000 ∷ []) (0x8000000000000000 ∷ []) (finished 0x3ff0000000000000 0x4000000000000000 2 (0x3ff0000000000000 ∷ 0x4000000000000000 ∷ []) (0x8000000000000000 ∷ []))
    -- slices that are longer than the plan
    ∷ fills (contents 1 2 1 1 (0 ∷ 1 ∷ 9 ∷ []) (2 ∷ 9 ∷ []) (65535 ∷ 9 ∷ []) (0 ∷ 1 ∷ 1 ∷ 0 ∷ []) (1 ∷ 0 ∷ [])) (0x4010000000000000 ∷ 0x4008000000000000 ∷ []) (0x4000000000000000 ∷ []) (finished 0x4000000000000000 0x4010000000000000 2 (0x4010000000000000 ∷ 0x4000000000000000 ∷ []) (0x3fe0000000000000 ∷ []))
    -- 28: unknowns outside 1 to 6, before everything else
    ∷ fills (edge_of 0) [] [] (stopped 28 [] [])
    ∷ fills (edge_of 7) [] [] (stopped 28 [] [])
    ∷ fills (contents 0 0 0 0 [] [] [] [] []) [] [] (stopped 28 [] [])
    -- 13: counts out of their limits, and a slice shorter than its count; before 29 and 30
    ∷ fills (contents 2 0 0 0 [] [] [] [] []) (0x3ff0000000000000 ∷ []) [] (stopped 13 (0x3ff0000000000000 ∷ []) [])
    ∷ fills (contents 2 2 1 1 (0 ∷ []) (2 ∷ []) (65535 ∷ []) (0 ∷ 1 ∷ 1 ∷ []) (1 ∷ [])) (0x3ff0000000000000 ∷ []) [] (stopped 13 (0x3ff0000000000000 ∷ []) [])
    ∷ fills (contents 1 2 1 1 (0 ∷ 1 ∷ []) (2 ∷ []) (65535 ∷ []) (0 ∷ 1 ∷ 1 ∷ []) []) (0x0 ∷ 0x3ff0000000000000 ∷ []) (0x3ff0000000000000 ∷ []) (stopped 13 (0x0 ∷ 0x3ff0000000000000 ∷ []) (0x3ff0000000000000 ∷ []))
    -- 13 where one slice alone is at fault: order, sizes, parents or column starts shorter than the count
    ∷ fills (contents 1 2 1 1 (0 ∷ []) (2 ∷ []) (65535 ∷ []) (0 ∷ 1 ∷ 1 ∷ []) (1 ∷ [])) (0x3ff0000000000000 ∷ 0x3ff0000000000000 ∷ []) (0x3ff0000000000000 ∷ []) (stopped 13 (0x3ff0000000000000 ∷ 0x3ff0000000000000 ∷ []) (0x3ff0000000000000 ∷ []))
    ∷ fills (contents 1 2 1 1 (0 ∷ 1 ∷ []) [] (65535 ∷ []) (0 ∷ 1 ∷ 1 ∷ []) (1 ∷ [])) (0x3ff0000000000000 ∷ 0x3ff0000000000000 ∷ []) (0x3ff0000000000000 ∷ []) (stopped 13 (0x3ff0000000000000 ∷ 0x3ff0000000000000 ∷ []) (0x3ff0000000000000 ∷ []))
    ∷ fills (contents 1 2 1 1 (0 ∷ 1 ∷ []) (2 ∷ []) [] (0 ∷ 1 ∷ 1 ∷ []) (1 ∷ [])) (0x3ff0000000000000 ∷ 0x3ff0000000000000 ∷ []) (0x3ff0000000000000 ∷ []) (stopped 13 (0x3ff0000000000000 ∷ 0x3ff0000000000000 ∷ []) (0x3ff0000000000000 ∷ []))
    ∷ fills (contents 1 2 1 1 (0 ∷ 1 ∷ []) (2 ∷ []) (65535 ∷ []) (0 ∷ 1 ∷ []) (1 ∷ [])) (0x3ff0000000000000 ∷ 0x3ff0000000000000 ∷ []) (0x3ff0000000000000 ∷ []) (stopped 13 (0x3ff0000000000000 ∷ 0x3ff0000000000000 ∷ []) (0x3ff0000000000000 ∷ []))
    -- 15 to 19, each before 29 and 30
    ∷ fills (contents 2 2 1 1 (0 ∷ 0 ∷ []) (2 ∷ []) (65535 ∷ []) (0 ∷ 1 ∷ 1 ∷ []) (1 ∷ [])) (0x3ff0000000000000 ∷ []) [] (stopped 15 (0x3ff0000000000000 ∷ []) [])
    ∷ fills (contents 2 2 1 1 (0 ∷ 1 ∷ []) (1 ∷ []) (65535 ∷ []) (0 ∷ 1 ∷ 1 ∷ []) (1 ∷ [])) (0x3ff0000000000000 ∷ []) [] (stopped 16 (0x3ff0000000000000 ∷ []) [])
    ∷ fills (contents 2 2 1 1 (0 ∷ 1 ∷ []) (2 ∷ []) (65535 ∷ []) (0 ∷ 1 ∷ 1 ∷ []) (0 ∷ [])) (0x3ff0000000000000 ∷ []) [] (stopped 17 (0x3ff0000000000000 ∷ []) [])
    ∷ fills (contents 2 2 2 1 (0 ∷ 1 ∷ []) (1 ∷ 1 ∷ []) (65535 ∷ 65535 ∷ []) (0 ∷ 1 ∷ 1 ∷ []) (1 ∷ [])) (0x3ff0000000000000 ∷ []) [] (stopped 18 (0x3ff0000000000000 ∷ []) [])
    ∷ fills (contents 2 3 1 2 (0 ∷ 1 ∷ 2 ∷ []) (3 ∷ []) (65535 ∷ []) (0 ∷ 2 ∷ 2 ∷ 2 ∷ []) (1 ∷ 2 ∷ [])) (0x3ff0000000000000 ∷ []) [] (stopped 19 (0x3ff0000000000000 ∷ []) [])
    -- faults of two checks that follow one another, from 28 and 13 to 18 and 19: the earlier check answers
    ∷ fills (contents 7 2 1 1 (0 ∷ 1 ∷ []) [] (65535 ∷ []) (0 ∷ 1 ∷ 1 ∷ []) (1 ∷ [])) (0x3ff0000000000000 ∷ 0x3ff0000000000000 ∷ []) (0x3ff0000000000000 ∷ []) (stopped 28 (0x3ff0000000000000 ∷ 0x3ff0000000000000 ∷ []) (0x3ff0000000000000 ∷ []))
    ∷ fills (contents 1 2 1 1 (0 ∷ 0 ∷ []) [] (65535 ∷ []) (0 ∷ 1 ∷ 1 ∷ []) (1 ∷ [])) (0x3ff0000000000000 ∷ 0x3ff0000000000000 ∷ []) (0x3ff0000000000000 ∷ []) (stopped 13 (0x3ff0000000000000 ∷ 0x3ff0000000000000 ∷ []) (0x3ff0000000000000 ∷ []))
    ∷ fills (contents 1 2 1 1 (0 ∷ 0 ∷ []) (1 ∷ []) (65535 ∷ []) (0 ∷ 1 ∷ 1 ∷ []) (1 ∷ [])) (0x3ff0000000000000 ∷ 0x3ff0000000000000 ∷ []) (0x3ff0000000000000 ∷ []) (stopped 15 (0x3ff0000000000000 ∷ 0x3ff0000000000000 ∷ []) (0x3ff0000000000000 ∷ []))
    ∷ fills (contents 1 2 1 1 (0 ∷ 1 ∷ []) (1 ∷ []) (65535 ∷ []) (0 ∷ 1 ∷ 1 ∷ []) (0 ∷ [])) (0x3ff0000000000000 ∷ 0x3ff0000000000000 ∷ []) (0x3ff0000000000000 ∷ []) (stopped 16 (0x3ff0000000000000 ∷ 0x3ff0000000000000 ∷ []) (0x3ff0000000000000 ∷ []))
    ∷ fills (contents 1 3 3 2 (0 ∷ 1 ∷ 2 ∷ []) (1 ∷ 1 ∷ 1 ∷ []) (65535 ∷ 65535 ∷ 65535 ∷ []) (0 ∷ 1 ∷ 2 ∷ 2 ∷ []) (1 ∷ 1 ∷ [])) (0x3ff0000000000000 ∷ 0x3ff0000000000000 ∷ 0x3ff0000000000000 ∷ []) (0x3ff0000000000000 ∷ 0x3ff0000000000000 ∷ []) (stopped 17 (0x3ff0000000000000 ∷ 0x3ff0000000000000 ∷ 0x3ff0000000000000 ∷ []) (0x3ff0000000000000 ∷ 0x3ff0000000000000 ∷ []))
    ∷ fills (contents 1 3 2 2 (0 ∷ 1 ∷ 2 ∷ []) (2 ∷ 1 ∷ []) (65535 ∷ 65535 ∷ []) (0 ∷ 2 ∷ 2 ∷ 2 ∷ []) (1 ∷ 2 ∷ [])) (0x3ff0000000000000 ∷ 0x3ff0000000000000 ∷ 0x3ff0000000000000 ∷ []) (0x3ff0000000000000 ∷ 0x3ff0000000000000 ∷ []) (stopped 18 (0x3ff0000000000000 ∷ 0x3ff0000000000000 ∷ 0x3ff0000000000000 ∷ []) (0x3ff0000000000000 ∷ 0x3ff0000000000000 ∷ []))
    -- 29: more than one unknown, before 30
    ∷ fills (edge_of 2) [] [] (stopped 29 [] [])
    ∷ fills (edge_of 6) (0x0 ∷ 0x3ff0000000000000 ∷ []) (0x3ff0000000000000 ∷ []) (stopped 29 (0x0 ∷ 0x3ff0000000000000 ∷ []) (0x3ff0000000000000 ∷ []))
    -- 30: a diagonal or values of another length, before 31
    ∷ fills edge [] [] (stopped 30 [] [])
    ∷ fills edge (0x0 ∷ []) (0x3ff0000000000000 ∷ []) (stopped 30 (0x0 ∷ []) (0x3ff0000000000000 ∷ []))
    ∷ fills edge (0x0 ∷ 0x3ff0000000000000 ∷ 0x3ff0000000000000 ∷ []) (0x3ff0000000000000 ∷ []) (stopped 30 (0x0 ∷ 0x3ff0000000000000 ∷ 0x3ff0000000000000 ∷ []) (0x3ff0000000000000 ∷ []))
    ∷ fills edge (0x0 ∷ 0x3ff0000000000000 ∷ []) [] (stopped 30 (0x0 ∷ 0x3ff0000000000000 ∷ []) [])
    ∷ fills edge (0x0 ∷ 0x3ff0000000000000 ∷ []) (0x3ff0000000000000 ∷ 0x3ff0000000000000 ∷ []) (stopped 30 (0x0 ∷ 0x3ff0000000000000 ∷ []) (0x3ff0000000000000 ∷ 0x3ff0000000000000 ∷ []))
    -- 30 where both lengths are wrong and their sum is right
    ∷ fills edge (0x3ff0000000000000 ∷ []) (0x3ff0000000000000 ∷ 0x3ff0000000000000 ∷ []) (stopped 30 (0x3ff0000000000000 ∷ []) (0x3ff0000000000000 ∷ 0x3ff0000000000000 ∷ []))
    -- the place of a pair, in either order
    ∷ stands path.column_starts path.rows 4 2 (in_slot 3)
    ∷ stands path.column_starts path.rows 2 4 (in_slot 3)
    ∷ stands path.column_starts path.rows 3 3 (on_diagonal 3)
    ∷ stands path.column_starts path.rows 0 4 no_place
    ∷ stands path.column_starts path.rows 1 3 no_place
    -- the number held at a place
    ∷ holds (on_diagonal 1) (0x3ff0000000000000 ∷ 0x4000000000000000 ∷ 0x4008000000000000 ∷ []) (0x4010000000000000 ∷ 0x4014000000000000 ∷ 0x4018000000000000 ∷ []) (0x4000000000000000 ∷ [])
    ∷ holds (in_slot 1) (0x3ff0000000000000 ∷ 0x4000000000000000 ∷ 0x4008000000000000 ∷ []) (0x4010000000000000 ∷ 0x4014000000000000 ∷ 0x4018000000000000 ∷ []) (0x4014000000000000 ∷ [])
    ∷ holds no_place (0x3ff0000000000000 ∷ 0x4000000000000000 ∷ 0x4008000000000000 ∷ []) (0x4010000000000000 ∷ 0x4014000000000000 ∷ 0x4018000000000000 ∷ []) []
    -- "in ascending k and within it ascending i"; a column has each pair once, so another order inside it would leave the same bits
    ∷ paired (2 ∷ 3 ∷ 4 ∷ []) ((2, 2) ∷ (2, 3) ∷ (2, 4) ∷ (3, 3) ∷ (3, 4) ∷ (4, 4) ∷ [])
    ∷ paired [] []
    -- column 0 with rows 1 and 2 and column 1 without any, which is refused (19), aims at a pair without a slot
    ∷ aims 5 path.column_starts path.rows true
    ∷ aims 6 gaps.column_starts gaps.rows true
    ∷ aims 3 (0 ∷ 2 ∷ 2 ∷ 2 ∷ []) (1 ∷ 2 ∷ []) false
    ∷ aims 3 (0 ∷ 2 ∷ 3 ∷ 3 ∷ []) (1 ∷ 2 ∷ 2 ∷ []) true
    ∷ aims 4 (0 ∷ 0 ∷ 2 ∷ 2 ∷ 2 ∷ []) (2 ∷ 3 ∷ []) false
    ∷ aims 1 (0 ∷ 2 ∷ 2 ∷ 2 ∷ []) (1 ∷ 2 ∷ []) false
    ∷ aims 0 (0 ∷ 2 ∷ 2 ∷ 2 ∷ []) (1 ∷ 2 ∷ []) true
    -- the columns that are worked
    ∷ works edge (0x3ff0000000000000 ∷ 0x4000000000000000 ∷ []) (0x3ff0000000000000 ∷ []) 2
    ∷ works edge (0x3ff0000000000000 ∷ 0x3ff0000000000000 ∷ []) (0x3ff0000000000000 ∷ []) 1
    ∷ works edge (0x0 ∷ 0x4000000000000000 ∷ []) (0x3ff0000000000000 ∷ []) 0
    ∷ works singles (0x0 ∷ 0x4000000000000000 ∷ []) [] 0
    -- none, the first column, and the third alone
    ∷ reaches path (0x4010000000000000 ∷ 0x3fd0000000000000 ∷ 0x4010000000000000 ∷ 0x4010000000000000 ∷ 0x4010000000000000 ∷ []) (0x3ff0000000000000 ∷ 0x4000000000000000 ∷ 0x4008000000000000 ∷ 0x4014000000000000 ∷ 0x401c000000000000 ∷ []) 0 0 (filled (0x4010000000000000 ∷ 0x3fd0000000000000 ∷ 0x4010000000000000 ∷ 0x4010000000000000 ∷ 0x4010000000000000 ∷ []) (0x3ff0000000000000 ∷ 0x4000000000000000 ∷ 0x4008000000000000 ∷ 0x4014000000000000 ∷ 0x401c000000000000 ∷ []))
    ∷ reaches path (0x4010000000000000 ∷ 0x3fd0000000000000 ∷ 0x4010000000000000 ∷ 0x4010000000000000 ∷ 0x4010000000000000 ∷ []) (0x3ff0000000000000 ∷ 0x4000000000000000 ∷ 0x4008000000000000 ∷ 0x4014000000000000 ∷ 0x401c000000000000 ∷ []) 0 1 (filled (0x4010000000000000 ∷ 0x0 ∷ 0x4010000000000000 ∷ 0x4010000000000000 ∷ 0x4010000000000000 ∷ []) (0x3fd0000000000000 ∷ 0x4000000000000000 ∷ 0x4008000000000000 ∷ 0x4014000000000000 ∷ 0x401c000000000000 ∷ []))
    ∷ reaches path (0x4010000000000000 ∷ 0x3fd0000000000000 ∷ 0x4010000000000000 ∷ 0x4010000000000000 ∷ 0x4010000000000000 ∷ []) (0x3ff0000000000000 ∷ 0x4000000000000000 ∷ 0x4008000000000000 ∷ 0x4014000000000000 ∷ 0x401c000000000000 ∷ []) 2 1 (filled (0x4010000000000000 ∷ 0x3fd0000000000000 ∷ 0x4010000000000000 ∷ 0x3ffc000000000000 ∷ 0xc002000000000000 ∷ []) (0x3ff0000000000000 ∷ 0x4000000000000000 ∷ 0x3fe8000000000000 ∷ 0x3ff4000000000000 ∷ 0x400a000000000000 ∷ []))
    -- all five columns of the plan above
    ∷ reaches full (0x4022333333333333 ∷ 0x402099999999999a ∷ 0x4025666666666666 ∷ 0x4027cccccccccccd ∷ 0x401ecccccccccccd ∷ []) (0x3fd5555555555555 ∷ 0x3fe6666666666666 ∷ 0xbff4cccccccccccd ∷ 0x3feccccccccccccd ∷ 0x3ffb333333333333 ∷ 0xbfe3333333333333 ∷ 0x3fe5555555555555 ∷ 0x3fb999999999999a ∷ 0x3ff199999999999a ∷ 0xbffe666666666666 ∷ []) 0 5 (filled (0x4022333333333333 ∷ 0x4020935935935936 ∷ 0x40249da3782649de ∷ 0x4027560ab1bd34dc ∷ 0x401ce050b5345228 ∷ []) (0x3fa2c12c12c12c13 ∷ 0x3fb3b13b13b13b14 ∷ 0xbfc2492492492493 ∷ 0x3fb951951951951a ∷ 0x3fc9dc06f4670da0 ∷ 0xbfb10ff8f09029b2 ∷ 0x3fb39300ba57f983 ∷ 0x3f9ef45243a64ccf ∷ 0x3fb66b83caf0b7b9 ∷ 0xbfc344d1c3e032be ∷ []))
    -- column 2 of mesh 4 divides in slots 2 and 3, and subtracts at 3, 4 and slot 4
    ∷ touching path.column_starts path.rows (in_slot 1) 2 false
    ∷ touching path.column_starts path.rows (in_slot 2) 2 true
    ∷ touching path.column_starts path.rows (in_slot 3) 2 true
    ∷ touching path.column_starts path.rows (in_slot 4) 2 true
    ∷ touching path.column_starts path.rows (on_diagonal 2) 2 false
    ∷ touching path.column_starts path.rows (on_diagonal 3) 2 true
    ∷ touching path.column_starts path.rows (on_diagonal 4) 2 true
    ∷ touching path.column_starts path.rows no_place 2 false
    -- slot 1 is not position 1; a pair without a slot is no place that a column could touch
    ∷ touching path.column_starts path.rows (in_slot 1) 0 false
    ∷ touching path.column_starts path.rows (on_diagonal 1) 0 true
    ∷ touching (0 ∷ 2 ∷ 2 ∷ 2 ∷ []) (1 ∷ 2 ∷ []) (on_diagonal 0) 0 false
    ∷ touching (0 ∷ 2 ∷ 2 ∷ 2 ∷ []) (1 ∷ 2 ∷ []) (in_slot 2) 0 false
    ∷ touching (0 ∷ 2 ∷ 2 ∷ 2 ∷ []) (1 ∷ 2 ∷ []) no_place 0 false
    ∷ []

-- every row holds
pub factorings_hold : map computed factorings ≡ map told factorings
unfolding everything factorings
factorings_hold = refl

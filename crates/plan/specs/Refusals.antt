-- Document 01, "Refusals": the number of each, the order of checks, and the family of a number.
use Rattle.std.specs.Prelude.{Bool, cond, ◌&&◌, List, [], ◌∷◌, ℕ, leb, eqb, Result, Ok, Err}
use Rattle.plan.specs.declared.refusal.Refusal.{Refusal}
use Rattle.plan.specs.declared.refusal.Refusal.TheVariants as refusal
use Rattle.plan.specs.declared.RefusalFamily.{RefusalFamily}
use Rattle.plan.specs.declared.RefusalFamily.TheVariants.{Mesh, File, Program, Question, None}

-- The number of a refusal in the tables of documents 01 and 02
abbrev pub number_of : Refusal → ℕ
number_of refusal.NodeCount = 1
number_of refusal.Starts = 2
number_of refusal.EntryCount = 3
number_of refusal.NeighbourOutside = 4
number_of refusal.ListsItself = 5
number_of refusal.NotAscending = 6
number_of refusal.OneSided = 7
number_of refusal.BuffersTooShort = 8
number_of refusal.RowsTooShort = 9
number_of refusal.TooFewBytes = 10
number_of refusal.Magic = 11
number_of refusal.Version = 12
number_of refusal.Header = 13
number_of refusal.FileLength = 14
number_of refusal.Order = 15
number_of refusal.Parts = 16
number_of refusal.Rows = 17
number_of refusal.RowOutside = 18
number_of refusal.NotCovered = 19
number_of refusal.Input = 20
number_of refusal.PositionOutside = 21
number_of refusal.Layout = 22
number_of refusal.Text = 23
number_of refusal.Matrix = 24
number_of refusal.RepeatedPair = 25
number_of refusal.TooManyNeighbours = 26
number_of refusal.SlotOutside = 27
number_of refusal.Unknowns = 28
number_of refusal.ManyUnknowns = 29
number_of refusal.ValueCount = 30
number_of refusal.Pivot = 31
number_of refusal.Pairing = 32
number_of refusal.PairedTwice = 33

-- The number of an answer: "the number (0 if none)"
abbrev pub fault_of : {A : Type 0} → Result A Refusal → ℕ
fault_of (Ok answer) = 0
fault_of (Err refusal) = number_of refusal

-- all refusals, and the one that has a number; where none has it, the last
abbrev pub refusals : List Refusal
refusals =
    refusal.NodeCount ∷ refusal.Starts ∷ refusal.EntryCount ∷ refusal.NeighbourOutside ∷ refusal.ListsItself ∷ refusal.NotAscending ∷
    refusal.OneSided ∷ refusal.BuffersTooShort ∷ refusal.RowsTooShort ∷ refusal.TooFewBytes ∷ refusal.Magic ∷ refusal.Version ∷ refusal.Header ∷
    refusal.FileLength ∷ refusal.Order ∷ refusal.Parts ∷ refusal.Rows ∷ refusal.RowOutside ∷ refusal.NotCovered ∷ refusal.Input ∷
    refusal.PositionOutside ∷ refusal.Layout ∷ refusal.Text ∷ refusal.Matrix ∷ refusal.RepeatedPair ∷ refusal.TooManyNeighbours ∷
    refusal.SlotOutside ∷ refusal.Unknowns ∷ refusal.ManyUnknowns ∷ refusal.ValueCount ∷ refusal.Pivot ∷ refusal.Pairing ∷ refusal.PairedTwice ∷ []

abbrev pub numbered : ℕ → List Refusal → Refusal
numbered k [] = refusal.PairedTwice
numbered k (r ∷ rs) = cond (eqb (number_of r) k) r (numbered k rs)

abbrev pub refusal_of : ℕ → Refusal
refusal_of k = numbered k refusals

-- Checks in the order in which they are made: to each its number in the table, and whether its fault is there.
abbrev pub Checks : Type 0
Checks = List (ℕ × Bool)

-- "Each check covers the whole input before the next begins": the number of the first check whose fault is there, 0 for none.
unfoldable pub first_fault : Checks → ℕ
first_fault [] = 0
first_fault (c ∷ cs) =
    let later : ℕ = first_fault cs in
    cond c.1 c.0 later

-- whether number k is from a to b
abbrev pub within : ℕ → ℕ → ℕ → Bool
within a b k = leb a k && leb k b

-- "A number's family is told by its range: mesh 1 to 9, file 10 to 19, program 20, question 21 and 22, else none." Of document 02's numbers:
-- "their family none".
unfoldable pub family_of : ℕ → RefusalFamily
family_of k =
    cond (within 1 9 k) Mesh
    (cond (within 10 19 k) File
    (cond (within 20 20 k) Program
    (cond (within 21 22 k) Question
    None)))

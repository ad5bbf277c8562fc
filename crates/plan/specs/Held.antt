-- Document 02, E9: "For display, reading the factor at a pair, in either order, answers with the number held there, or that there is no slot."
use Rattle.std.specs.Prelude.{List, [], ◌∷◌, ◌++◌, ℕ, zero, suc, get_or, Float}
use Rattle.plan.specs.Refusals.{Checks, first_fault}
use Rattle.plan.specs.Answers.{HeldReply, held_case, slotless_case}
use Rattle.plan.specs.Questions.{layout_checks, position_checks}
use Rattle.plan.specs.Filling.{Filling, Place, place_of, held_at}
use Rattle.plan.specs.Factoring.{bad_filling}

-- "It checks 1, 22, 30, then 21": as many values are needed as there are slots, which is column start n
unfoldable pub held_checks : ℕ → List ℕ → List ℕ → Filling → ℕ → ℕ → Checks
held_checks n column_starts rows f a b =
    layout_checks n column_starts rows ++ ((30, bad_filling n (get_or column_starts n 0) f) ∷ position_checks n (a ∷ b ∷ []))

-- what is answered where nothing is refused, by what is held at the pair's place: at most one number is held
abbrev pub held_there : List Float → HeldReply
held_there (x ∷ xs) = record { number = 0; kind = held_case; held = x ∷ [] }
held_there [] = record { number = 0; kind = slotless_case; held = [] }

-- by the number of the first fault, 0 for none
unfoldable pub held_found : ℕ → Place → Filling → HeldReply
held_found zero at f = held_there (held_at at f)
held_found (suc k) at f = record { number = suc k; kind = 0; held = [] }

-- the question
unfoldable pub held_question : ℕ → List ℕ → List ℕ → Filling → ℕ → ℕ → HeldReply
held_question n column_starts rows f a b =
    held_found (first_fault (held_checks n column_starts rows f a b)) (place_of column_starts rows a b) f

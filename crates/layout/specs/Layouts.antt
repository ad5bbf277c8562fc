-- A layout of the code: its numbers as lent.
use Rattle.std.specs.Prelude.{◌≡◌, ℕ, List}
use Rattle.layout.specs.declared.checked.CheckedLayout.{CheckedLayout}

abbrev pub LaidOut : CheckedLayout → ℕ → List ℕ → List ℕ → Type 0
LaidOut l n column_starts rows = (l.n ≡ n) × (l.column_starts.now ≡ column_starts) × (l.rows.now ≡ rows)

-- `join::lists::Merging::write_entries` meets its contract: the loop writes one list more in each turn, behind those before it.
use mathlib.Core.Path.{◌≡◌, refl, sym, ap, ap₂, subst, ◌∙◌}
use mathlib.Core.List.{List, flatten}
use Prim.Native.Nat.{ℕ, ◌+◌, ◌-◌, ◌≤◌, ◌<◌}
use native.Mathlib.Omega.{arith}
use lib.ListN.{length, take, drop, get_or, length-append}
use Rattle.plan.specs.Lists.{written, is_in, ascending}
use Rattle.plan.specs.Mesh.{neighbours_of}
use Rattle.theory.proofs.Written.{Reached, reached-long, reached-room, reached_more}
use Rattle.mesh.specs.Lent.{as_lent}
use Rattle.join.specs.declared.lists.Merging.{Merging}
use Rattle.join.specs.Merged.{list_of, lists_of}
use Rattle.join.specs.Merging.{merged, gone}
use Rattle.join.specs.Lists.{merged_list, merged_lists}
use Rattle.join.proofs.MergedLists.{entry_goes, lists_more, lists_grow}
use Rattle.join.proofs.lists.Merging.write_entries.Goals.{Start, At-loop-v, After-neighbours_of-others, After-write_merged-at, After-loop-v}
use Rattle.join.proofs.lists.Merging.write_entries.Goals as goal

pub loop-v-init : goal.loop-v-init
unfolding merged_lists flatten
loop-v-init c = (omega arith, record { front = refl; many = refl })

-- there is room for it behind them
room : (c : After-neighbours_of-others) → c.loop-v.v < c.args.self.now.nodes → c.loop-v.at + length (list_of c.args.self.now c.loop-v.v) ≤ length c.args.neighbours.now
room c lt =
    let v : ℕ = c.loop-v.v in
    omega (
      arith,
      c.loop-v.invariant.1.many,
      ap length (lists_more (as_lent c.args.self.now.first) (as_lent c.args.self.now.second) c.args.self.now.goes.now c.args.self.now.from.now v) ∙ length-append (flatten (lists_of c.args.self.now v)) (list_of c.args.self.now v),
      lists_grow (as_lent c.args.self.now.first) (as_lent c.args.self.now.second) c.args.self.now.goes.now c.args.self.now.from.now (v + 1) c.args.self.now.nodes (omega (arith, lt)),
      c.requires,
    )

-- two lists merged are node v's
merged_here : (m : Merging) (v : ℕ) (ones others : List ℕ) → ones ≡ neighbours_of (as_lent m.first) v → others ≡ neighbours_of (as_lent m.second) (get_or m.from.now v 0)
    → merged (gone m.goes.now others) ones ≡ list_of m v
unfolding merged_list
merged_here m v ones others e f = ap₂ (λ (xs ys : List ℕ). merged (gone m.goes.now xs) ys) f e

fits : (c : After-neighbours_of-others) → c.loop-v.at + length (list_of c.args.self.now c.loop-v.v) ≤ length c.args.neighbours.now
fits c = room c (omega arith)

-- the buffer is as long as it was
long : (c : After-neighbours_of-others) → length c.loop-v.neighbours ≡ length c.args.neighbours.now
long c = reached-long c.args.neighbours.now (flatten (lists_of c.args.self.now c.loop-v.v)) c.loop-v.neighbours c.loop-v.at c.loop-v.invariant.1 (omega (arith, fits c))

pub write_merged-at-requires : goal.write_merged-at-requires
write_merged-at-requires c = (
  ap ascending c.neighbours_of-ones.ensures ∙ c.args.self.now.mergeable.first.ascends c.loop-v.v,
  (λ w t. entry_goes (as_lent c.args.self.now.first) (as_lent c.args.self.now.second) c.args.self.now.goes.now c.args.self.now.from.now c.args.self.now.nodes c.args.self.now.mergeable (get_or c.args.self.now.from.now c.loop-v.v 0) w (sym (ap (is_in w) c.neighbours_of-others.ensures) ∙ t)),
  rw (merged_here c.args.self.now c.loop-v.v _ _ c.neighbours_of-ones.ensures c.neighbours_of-others.ensures) (reached-room c.args.neighbours.now (flatten (lists_of c.args.self.now c.loop-v.v)) c.loop-v.neighbours c.loop-v.at c.loop-v.invariant.1 (length (list_of c.args.self.now c.loop-v.v)) (fits (goal.at.write_merged-at-requires c).After-neighbours_of-others)),
)

listed : (c : After-write_merged-at) → c.write_merged-at.result ≡ length (list_of c.args.self.now c.loop-v.v)
listed c = c.write_merged-at.ensures.0 ∙ ap length (merged_here c.args.self.now c.loop-v.v _ _ c.neighbours_of-ones.ensures c.neighbours_of-others.ensures)

pub loop-v-preserved : goal.loop-v-preserved
loop-v-preserved c =
    let v : ℕ = c.loop-v.v in (
      omega arith,
      rw (lists_more (as_lent c.args.self.now.first) (as_lent c.args.self.now.second) c.args.self.now.goes.now c.args.self.now.from.now v)
          (reached_more c.args.neighbours.now (flatten (lists_of c.args.self.now v)) c.loop-v.neighbours c.loop-v.at c.loop-v.invariant.1 (list_of c.args.self.now v) c.write_merged-at.new.buffer (c.loop-v.at + c.write_merged-at.result)
          (c.write_merged-at.ensures.1 ∙ ap (λ (l : List ℕ). written l (take (length c.loop-v.neighbours - c.loop-v.at) (drop c.loop-v.at c.loop-v.neighbours))) (merged_here c.args.self.now c.loop-v.v _ _ c.neighbours_of-ones.ensures c.neighbours_of-others.ensures)) (ap (λ (m : ℕ). c.loop-v.at + m) (sym (listed (goal.at.loop-v-preserved c).After-write_merged-at)))),
    )

-- the loop has ended
ended : (c : After-loop-v) → Reached c.args.neighbours.now (flatten (lists_of c.args.self.now c.args.self.now.nodes)) c.loop-v.neighbours c.loop-v.at
ended c =
    let end : c.loop-v.v ≡ c.args.self.now.nodes = omega (arith, c.loop-v.invariant.0, c.loop-v-test.false) in
    subst (λ (v : ℕ). Reached c.args.neighbours.now (flatten (lists_of c.args.self.now v)) c.loop-v.neighbours c.loop-v.at) end c.loop-v.invariant.1

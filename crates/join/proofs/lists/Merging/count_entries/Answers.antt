-- `join::lists::Merging::count_entries` meets its contract: the loop writes the length of one list more in each turn.
use mathlib.Core.Path.{◌≡◌, refl, ap, ◌∙◌}
use mathlib.Core.List.{map}
use Prim.Native.Nat.{ℕ, ◌≤◌, ◌<◌}
use native.Mathlib.Omega.{arith}
use lib.ListN.{length, length-map}
use Rattle.plan.specs.Lists.{written}
use Rattle.plan.specs.Mesh.{max_nodes}
use Rattle.theory.proofs.Written.{written_push, written-length, front-written}
use Rattle.mesh.specs.Lent.{as_lent}
use Rattle.join.specs.Merged.{list_of, lists_of}
use Rattle.join.specs.Lists.{merged_lists}
use Rattle.join.proofs.MergedLists.{entry_goes, merged_counted, merged-few, lengths_more, lists_many}
use Rattle.join.proofs.lists.Merging.count_entries.Goals.{After-neighbours_of-others, After-count_merged}
use Rattle.join.proofs.lists.Merging.count_entries.Goals as goal

pub loop-v-init : goal.loop-v-init
unfolding merged_lists
loop-v-init c = (omega arith, c.filled-counts.ensures.1, refl)

-- what was counted is the length of node v's list
listed : (c : After-count_merged) → c.count_merged.result ≡ length (list_of c.args.self.now c.loop-v.v)
listed c =
    c.count_merged.ensures
    ∙ rw (c.neighbours_of-ones.ensures, c.neighbours_of-others.ensures) (merged_counted (as_lent c.args.self.now.first) (as_lent c.args.self.now.second) c.args.self.now.goes.now c.args.self.now.from.now c.args.self.now.nodes c.args.self.now.mergeable c.loop-v.v)

pub count_merged-requires : goal.count_merged-requires
count_merged-requires c =
    rw (c.neighbours_of-ones.ensures, c.neighbours_of-others.ensures)
    (c.args.self.now.mergeable.first.short c.loop-v.v, c.args.self.now.mergeable.second.short _, entry_goes (as_lent c.args.self.now.first) (as_lent c.args.self.now.second) c.args.self.now.goes.now c.args.self.now.from.now c.args.self.now.nodes c.args.self.now.mergeable _)

-- it has room
few : (c : After-count_merged) → c.count_merged.result ≤ 52
few c = rw (listed c) (merged-few (as_lent c.args.self.now.first) (as_lent c.args.self.now.second) c.args.self.now.goes.now c.args.self.now.from.now c.args.self.now.nodes c.args.self.now.mergeable c.loop-v.v)

inside : (c : After-count_merged) → c.loop-v.v < max_nodes
inside c = omega (arith, c.args.self.now.mergeable.few)

pub loop-v-preserved : goal.loop-v-preserved
loop-v-preserved c =
    let before = lists_of c.args.self.now c.loop-v.v in (
      omega arith,
      c.loop-v.invariant.1,
      rw (c.loop-v.invariant.2, listed (goal.at.loop-v-preserved c).After-count_merged, lengths_more (as_lent c.args.self.now.first) (as_lent c.args.self.now.second) c.args.self.now.goes.now c.args.self.now.from.now c.loop-v.v)
          (written_push (map length before) c.filled-counts.result c.loop-v.v _ (length-map before length ∙ lists_many (as_lent c.args.self.now.first) (as_lent c.args.self.now.second) c.args.self.now.goes.now c.args.self.now.from.now c.loop-v.v) (omega (arith, inside (goal.at.loop-v-preserved c).After-count_merged, c.loop-v.invariant.1))),
    )

pub returns : goal.returns
returns c =
    let lists = lists_of c.args.self.now in
    let end : c.loop-v.v ≡ c.args.self.now.nodes = omega (arith, c.loop-v.invariant.0, c.loop-v-test.false) in
    let many : length (map length (lists c.args.self.now.nodes)) ≡ c.args.self.now.nodes = length-map (lists c.args.self.now.nodes) length ∙ lists_many (as_lent c.args.self.now.first) (as_lent c.args.self.now.second) c.args.self.now.goes.now c.args.self.now.from.now c.args.self.now.nodes in
    let all : c.loop-v.counts ≡ written (map length (lists c.args.self.now.nodes)) c.filled-counts.result = c.loop-v.invariant.2 ∙ ap (λ (v : ℕ). written (map length (lists v)) c.filled-counts.result) end in (
      ap length all ∙ written-length (map length (lists c.args.self.now.nodes)) c.filled-counts.result (omega (arith, many, c.loop-v.invariant.1, c.args.self.now.mergeable.few)) ∙ c.loop-v.invariant.1,
      front-written c.args.self.now.nodes (map length (lists c.args.self.now.nodes)) c.filled-counts.result c.loop-v.counts all many,
    )

pub overflow_cast-counts : goal.overflow_cast-counts
overflow_cast-counts c = omega (arith, few (goal.at.overflow_cast-counts c).After-count_merged)

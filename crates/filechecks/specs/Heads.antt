-- What a head of a file holds: the counts that the file's first bytes say, and where its order begins.
use Rattle.std.specs.Prelude.{◌≡◌, List, ℕ, ◌+◌}
use Rattle.plan.specs.File.{version_of, nodes_at, parse}
use Rattle.filechecks.specs.declared.header.Head.{Head}

pub record HeadOf (bytes : List ℕ) (head : Head) : Type 0 where
  pub end : head.end ≡ nodes_at (version_of bytes) + 12
  pub unknowns : head.unknowns ≡ (parse bytes).unknowns
  pub nodes : head.nodes ≡ (parse bytes).nodes
  pub parts : head.parts ≡ (parse bytes).parts
  pub slots : head.slots ≡ (parse bytes).slots

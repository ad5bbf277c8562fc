-- The file's bytes, one field behind the other.
use mathlib.Core.Path.{◌≡◌, sym, ◌∙◌}
use mathlib.Core.List.{◌++◌, flatten, append-nil, append_assoc}
use Prim.Native.Nat.{ℕ}
use native.Mathlib.Omega.{arith}
use lib.ListN.{length, length-append}
use Rattle.plan.specs.Planning.{Contents, row_counts}
use Rattle.plan.specs.File.{encode16, encode32, encode16s, magic, version, encode_parts, encode}
use Rattle.theory.proofs.Coding.{encode16-length}
use Rattle.theory.proofs.FileFields.{encode_fields, word_length}
use Rattle.planfile.specs.Filed.{header_of}

-- the file's first bytes, one number behind the other
pub header_fields : (u n p s : ℕ) → header_of u n p s ≡ ((((magic ++ encode16 version) ++ encode16 u) ++ encode32 n) ++ encode32 p) ++ encode32 s
unfolding flatten
header_fields u n p s = simp (append-nil, append_assoc)

-- 19 bytes
pub header-length : (u n p s : ℕ) → length (header_of u n p s) ≡ 19
header-length u n p s = rw (header_fields u n p s) (simp length-append (omega (arith, encode16-length version, encode16-length u, word_length n, word_length p, word_length s)))

-- the whole file, one field behind the other
pub file_fields : (c : Contents)
    → encode c ≡ (((header_of c.unknowns c.nodes c.parts c.slots ++ encode16s c.order) ++ encode_parts c) ++ encode16s (row_counts c)) ++ encode16s c.rows
file_fields c = encode_fields c ∙ sym (rw (header_fields c.unknowns c.nodes c.parts c.slots) (simp append_assoc))

-- `planfile::file::HeadedFile::read_rows` meets its contract: the rows stand behind the counts, up to the bytes' end.
use native.Mathlib.Omega.{arith}
use Rattle.planfile.proofs.Headed.{headed_sizes, rows_field}
use Rattle.planfile.proofs.file.HeadedFile.read_rows.Goals as goal

pub returns : goal.returns
returns c = rw (rows_field _ _ c.args.self.now.headed, ← c.rows_at.ensures) c.read16s.ensures

pub read16s-requires : goal.read16s-requires
read16s-requires c = (omega arith, omega (arith, c.rows_at.ensures, (headed_sizes _ _ c.args.self.now.headed).long), c.requires)

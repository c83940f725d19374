use Rattle.statement_cells.proofs.EarlierCompiledLemmas.{compiled_names_before}
use Rattle.statement_cells.proofs.EarlierDepthLemmas.{depth_names_before}
use Rattle.statement_cells.proofs.EarlierSurfaceLemmas.{surface_names_before}
use Rattle.statement_cells.proofs.law.cells_name_earlier_cells.Goals as goal

pub returns : goal.returns
returns c = record { surface = surface_names_before; depth = depth_names_before; whole = compiled_names_before }

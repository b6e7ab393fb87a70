-- The marks tell the level.
use mathlib.Core.Path.{◌∙◌}
use Rattle.sheet_levels.proofs.Laws.Laws.{level-is}
use Rattle.sheet_faults.proofs.noted.Noted.level.Goals as goal

pub returns : goal.returns
returns c =
    let s = c.args.self.now in c.level.ensures ∙ level-is s.counts s.tables.now s.work.now s.known.marks c.args.q c.requires

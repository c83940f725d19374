use Rattle.std.proofs.Common.{◌≡◌, ◌++◌, ◌+◌, ◌-◌, take, drop, subst}
use Rattle.trace_io.specs.Held.{Held}
use Rattle.trace_io.proofs.LinesLemmas.{kept_waiting, came_waiting}
use Rattle.trace_io.proofs.lines.LineReader.move_waiting.Goals as goal

pub returns-clause-kept : goal.returns-clause-kept
returns-clause-kept c =
    let n = c.extend_line-part.result.count in
    let new = c.extend_line-part.new.line.items in
    let rest = take (c.self.inside.upto - (c.self.inside.at + n)) (drop (c.self.inside.at + n) c.self.inside.chunk.items) in
    subst (λ (h : Held). new ++ rest ≡ h.line ++ h.waiting) c.self.view_is
    (kept_waiting c.self.inside.chunk.items c.deref.result.now c.self.inside.line.items new c.self.inside.at c.self.inside.upto n c.deref.ensures.value c.extend_line-part.ensures.added)

pub returns-clause-came : goal.returns-clause-came
returns-clause-came c = came_waiting c.self.inside.chunk.items c.deref.result.now c.extend_line-part.new.line.items c.self.inside.at c.self.inside.upto c.extend_line-part.result.count c.extend_line-part.result.closes c.deref.ensures.value c.extend_line-part.ensures.came

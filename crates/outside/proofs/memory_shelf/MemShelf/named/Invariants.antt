use Rattle.std.proofs.Common.{◌≡◌, drop, map}
use Rattle.outside.specs.Memory.{text_of}
use Rattle.outside.proofs.memory_shelf.MemShelf.named.Given as goal

abbrev pub invariant-loop-text : goal.invariant-loop-text
invariant-loop-text l = text_of l.self.texts l.name ≡ text_of (map (λ t. record { name = t.name; bytes = t.bytes.items }) (drop l.text-index l.text-items)) l.name

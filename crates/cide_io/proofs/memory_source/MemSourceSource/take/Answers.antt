use Rattle.std.proofs.Common.{◌≡◌, drop, Some, ap, sym, ◌∙◌}
use Rattle.cide_io.specs.Memory.{MemoryInput}
use Rattle.cide_io.proofs.Pieces.{copied_front, nothing_left}
use Rattle.cide_io.proofs.memory_source.MemSourceSource.take.Goals as goal

pub returns-clause-bytes : goal.returns-clause-bytes
returns-clause-bytes c =
    let left : drop c.self.inside.taken c.self.inside.bytes.items ≡ c.args.self.now.left = ap (λ (s : MemoryInput). s.left) c.self.view_is in (
      ap Some (sym left ∙ copied_front c.self.inside.bytes.items c.deref.result.now c.args.into.now c.copy_from_slice.new.self _ c.self.inside.taken c.min-count.result
          c.deref.ensures.value c.min-count.ensures c.copy_from_slice.ensures.len c.copy_from_slice.ensures.after),
      λ z. sym left ∙ nothing_left c.self.inside.bytes.items c.deref.result.now c.args.into.now c.self.inside.taken c.min-count.result
          c.deref.ensures.value c.min-count.ensures c.requires z,
    )

use Rattle.std.proofs.Common.{◌+◌, ◌-◌, ◌≤◌, ◌++◌, length, take, drop, refl, ap, ◌∙◌, arith, append-nil}
use Rattle.std.proofs.lemmas.List.{length-take, length-drop}
use Rattle.std.proofs.lemmas.Grind.{common_steps}
use Rattle.source_lines.specs.Buffers.{Buffered}
use Rattle.source_lines.proofs.Bytes.{window-filled}
use Rattle.source_lines.proofs.windows.Window.fill.Goals as goal

pub returns-in-Ok-clause-bytes : goal.returns-in-Ok-clause-bytes
returns-in-Ok-clause-bytes g c =
    let count = c.in-Ok.count in
    let more = take count c.take.new.into in
    let lent = c.deref_mut.result.now in
    let left = length lent - c.self.inside.to in
    let size = ap length c.deref_mut.ensures.value in
    let within : c.self.inside.to + count ≤ c.self.inside.buffer.len =
    first_of (omega (arith, c.in-Ok.ensures.bound, c.take.auto.into, size, c.self.inside.buffer.ok.0, c.self.invariant.1, length-take left (drop c.self.inside.to lent), length-drop c.self.inside.to lent), grind (arith, common_steps)) in
    let old = ap (λ (w : Buffered). w.bytes) c.self.view_is in (
      more,
      window-filled _ c.self.inside.to count _ _ c.self.inside.buffer.items _ c.take.new.into _ _ c.deref_mut.ensures.value
          c.self.invariant.0 (omega (arith, c.self.invariant.1, c.self.inside.buffer.ok.0)) refl within c.in-Ok.ensures.bound
          ∙ ap (λ bytes. bytes ++ more) old,
      omega (arith, length-take count c.take.new.into, c.in-Ok.ensures.bound),
      c.in-Ok.ensures.bytes.0,
      c.in-Ok.ensures.bytes.1,
    )

pub returns-in-Err-clause-bytes : goal.returns-in-Err-clause-bytes
returns-in-Err-clause-bytes g c =
    let old = ap (λ (w : Buffered). w.bytes) c.self.view_is in (
      window-filled _ c.self.inside.to 0 _ _ c.self.inside.buffer.items _ c.take.new.into _ _ c.deref_mut.ensures.value
          c.self.invariant.0 (omega (arith, c.self.invariant.1, c.self.inside.buffer.ok.0)) (omega arith) (omega (arith, c.self.invariant.1)) (omega arith)
          ∙ append-nil _ ∙ old,
      c.in-Err.ensures.bytes,
    )

use Rattle.std.proofs.Common.{◌+◌, ◌-◌, ◌≤◌, List, ℕ, length, drop, vec_len, ap, ◌∙◌, arith}
use Rattle.source_lines.specs.Buffers.{Buffered}
use Rattle.source_lines.proofs.Bytes.{length-window, window-passed}
use Rattle.source_lines.proofs.windows.Window.pass.Goals as goal

pub returns : goal.returns
returns c =
    let from = c.self.inside.from in
    let to = c.self.inside.to in
    let items = c.self.inside.buffer.items in
    let shown : List ℕ → Buffered = λ bytes. record { bytes = bytes; size = vec_len c.self.inside.buffer; room = vec_len c.self.inside.buffer - to } in
    let passed : Buffered → Buffered = λ w. record w { bytes = drop c.args.count w.bytes } in
    let size = length-window from to items c.self.invariant.0 (omega (arith, c.self.invariant.1, c.self.inside.buffer.ok.0)) in
    let within : from + c.args.count ≤ to = omega (arith, size, ap (λ (w : Buffered). length w.bytes) c.self.view_is, c.requires, c.self.invariant.0) in
    ap shown (window-passed from to c.args.count items within) ∙ ap passed c.self.view_is

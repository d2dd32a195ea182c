use Rattle.std.proofs.Common.{drop, ap, ◌∙◌}
use Rattle.std.proofs.lemmas.List.{take_rest}
use Rattle.source_lines.proofs.Finding.{found_newline, found_none}
use Rattle.source_lines.proofs.windows.Window.newline.Goals as goal

pub returns-in-Some : goal.returns-in-Some
returns-in-Some c =
    found_newline c.args.self.now.bytes _ c.args.seen c.in-Some.at (take_rest c.bytes.result.now c.args.seen ∙ ap (drop c.args.seen) c.bytes.ensures)
    c.requires.within c.requires.none c.in-Some.ensures.0 c.in-Some.ensures.1

pub returns-in-None : goal.returns-in-None
returns-in-None c =
    found_none c.args.self.now.bytes _ c.args.seen (take_rest c.bytes.result.now c.args.seen ∙ ap (drop c.args.seen) c.bytes.ensures) c.requires.none c.in-None.ensures

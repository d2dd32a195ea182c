use Rattle.std.proofs.Common.{◌≡◌, true, subst}
use Rattle.cfj_words.specs.Tokens.{Token}
use Rattle.fj_symbols.specs.Views.{symbol_seen}
use Rattle.expression_reader.specs.declared.mode.Mode.{Mode}
use Rattle.expression_reader.specs.Views.{settles_short}
use Rattle.expression_reader.proofs.Short.{named_token, both_short}
use Rattle.expression_reader.proofs.reader.ExpressionReader.next_mode.Goals as goal

-- in this mode
at : (m n : Mode) (t : Token) → m ≡ n → settles_short m t ≡ true → settles_short n t ≡ true
at m n t is h = subst (λ a. settles_short a t ≡ true) is h

pub begin-requires-clause-named : goal.begin-requires-clause-named
begin-requires-clause-named c = named_token (symbol_seen c.args.symbol) c.requires.read (at _ _ _ c.in-Begin.is c.requires.short)

pub first_arg-requires-clause-named : goal.first_arg-requires-clause-named
first_arg-requires-clause-named c = named_token (symbol_seen c.args.symbol) c.requires.read (at _ _ _ c.in-FirstArg.is c.requires.short)

pub in_marks-requires-clause-named : goal.in_marks-requires-clause-named
in_marks-requires-clause-named c = named_token (symbol_seen c.args.symbol) c.requires.read (at _ _ _ c.in-InMarks.is c.requires.short)

pub paren_name-requires-clause-short : goal.paren_name-requires-clause-short
paren_name-requires-clause-short c = at _ _ _ c.in-ParenName.is c.requires.short

pub paren_closed-requires-clause-short : goal.paren_closed-requires-clause-short
paren_closed-requires-clause-short c = (both_short c.in-ParenClosed.name (symbol_seen c.args.symbol) (at _ _ _ c.in-ParenClosed.is c.requires.short)).0

pub paren_closed-requires-clause-named : goal.paren_closed-requires-clause-named
paren_closed-requires-clause-named c = named_token (symbol_seen c.args.symbol) c.requires.read (both_short c.in-ParenClosed.name (symbol_seen c.args.symbol) (at _ _ _ c.in-ParenClosed.is c.requires.short)).1

pub after_dot-requires : goal.after_dot-requires
after_dot-requires c = named_token (symbol_seen c.args.symbol) c.requires.read (at _ _ _ c.in-AfterDot.is c.requires.short)

pub after_new-requires : goal.after_new-requires
after_new-requires c = named_token (symbol_seen c.args.symbol) c.requires.read (at _ _ _ c.in-AfterNew.is c.requires.short)

-- What symbols and roles stand for.
use Rattle.std.specs.Prelude.{ℕ, Bool, true, if◌then◌else◌, List, codes}
use Rattle.std.specs.Str.{bytes_eq}
use Rattle.std.specs.List.{list_all}
use Rattle.cfj_words.specs.Names.{is_identifier, is_name}
use Rattle.cfj_words.specs.Tokens as token
use Rattle.cfj_model.specs.Roles as role
use Rattle.fj_lexer.specs.declared.token.TokenKind.{TokenKind}
use Rattle.fj_lexer.specs.declared.token.TokenKind.TheVariants.{Word, Reserved, Mark}
use Rattle.fj_symbols.specs.declared.role.Role.{Role}
use Rattle.fj_symbols.specs.declared.role.Role.TheVariants as r
use Rattle.fj_symbols.specs.declared.symbol.Symbol.{Symbol}
use Rattle.fj_symbols.specs.declared.symbol.Symbol.TheVariants as s

abbrev pub symbol_seen : Symbol → token.Token
symbol_seen (s.Id w) = token.Id w.now
symbol_seen s.Class = token.ClassWord
symbol_seen s.Extends = token.ExtendsWord
symbol_seen s.Super = token.SuperWord
symbol_seen s.This = token.ThisWord
symbol_seen s.New = token.NewWord
symbol_seen s.Return = token.ReturnWord
symbol_seen s.True = token.TrueWord
symbol_seen s.False = token.FalseWord
symbol_seen s.Reserved = token.ReservedWord
symbol_seen s.OpenBrace = token.OpenBrace
symbol_seen s.CloseBrace = token.CloseBrace
symbol_seen s.OpenParen = token.OpenParen
symbol_seen s.CloseParen = token.CloseParen
symbol_seen s.Semicolon = token.Semicolon
symbol_seen s.Comma = token.Comma
symbol_seen s.Dot = token.Dot
symbol_seen s.Equals = token.Equals
symbol_seen s.At = token.At
symbol_seen s.Bang = token.Bang
symbol_seen s.Ampersand = token.Ampersand
symbol_seen s.Bar = token.Bar
symbol_seen s.Arrow = token.Arrow
symbol_seen s.DoubleArrow = token.DoubleArrow
symbol_seen s.End = token.End

-- the last test of `mark_token`
abbrev pub arrow_token : List ℕ → token.Token
arrow_token m = if bytes_eq m (codes "->") then token.Arrow else token.DoubleArrow

-- what a lexeme of this kind and text is
abbrev pub token_read : TokenKind → List ℕ → token.Token
token_read Word text = token.Id text
token_read Reserved text = token.word_token text
token_read Mark text = token.mark_token text

abbrev pub role_seen : Role → role.Role
role_seen r.FormatLine = role.format_line
role_seen (r.FeatureName w) = role.feature_name w.now
role_seen (r.MarkName w) = role.mark_name w.now
role_seen (r.FormulaName w) = role.formula_name w.now
role_seen (r.KnownName w) = role.known_name w.now
role_seen (r.ClassName w) = role.class_name w.now
role_seen (r.FieldName w) = role.field_name w.now
role_seen (r.MethodName w) = role.method_name w.now
role_seen (r.ParamName w) = role.param_name w.now
role_seen (r.MethodParamName w) = role.method_param_name w.now
role_seen (r.SentName w) = role.sent_name w.now
role_seen (r.AssignedName w) = role.assigned_name w.now
role_seen (r.VarName w) = role.var_name w.now
role_seen (r.UsedName w) = role.used_name w.now
role_seen r.Sign = role.sign
role_seen r.FormulaNode = role.formula_node
role_seen (r.FormulaOpens n) = role.formula_opens n
role_seen (r.Opens n) = role.opens n
role_seen (r.Casts n) = role.casts n
role_seen r.Node = role.node
role_seen r.Other = role.other_token

-- the name in a role is an identifier
abbrev pub is_identifier_role : role.Role → Bool
is_identifier_role (role.feature_name w) = is_identifier w
is_identifier_role (role.mark_name w) = is_identifier w
is_identifier_role (role.formula_name w) = is_identifier w
is_identifier_role (role.known_name w) = is_identifier w
is_identifier_role (role.class_name w) = is_identifier w
is_identifier_role (role.field_name w) = is_identifier w
is_identifier_role (role.method_name w) = is_identifier w
is_identifier_role (role.param_name w) = is_identifier w
is_identifier_role (role.method_param_name w) = is_identifier w
is_identifier_role (role.sent_name w) = is_identifier w
is_identifier_role (role.assigned_name w) = is_identifier w
is_identifier_role (role.var_name w) = is_identifier w
is_identifier_role (role.used_name w) = is_identifier w
is_identifier_role _ = true

-- what is called an identifier may be a name
abbrev pub is_name_token : token.Token → Bool
is_name_token (token.Id w) = is_name w
is_name_token _ = true

-- a token that a text can have: what is called an identifier is one
abbrev pub is_read : token.Token → Bool
is_read (token.Id w) = is_identifier w
is_read _ = true

abbrev pub are_read : List token.Token → Bool
are_read = list_all is_read

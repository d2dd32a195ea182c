-- Worked texts: what the machine answers, by computation.
use Rattle.std.proofs.Common.{◌≡◌, ℕ, List, [], ◌∷◌, Some, None, refl}
use Rattle.std.specs.Prelude.{codes}
use Rattle.cfj_model.specs.declared.expr.Expr.TheVariants as e
use Rattle.cfj_model.specs.Coloring.{no_colors}
use Rattle.cfj_words.specs.Tokens.{Id, NewWord, ThisWord, OpenParen, CloseParen, Comma, Dot, At, Bang, Semicolon}
use Rattle.cfj_model.specs.Roles.{casts, node, opens, other_token, sign, used_name, var_name, mark_name}
use Rattle.expression_reader.specs.Machine.{start, done, run}

a : List ℕ
a = codes "a"

b : List ℕ
b = codes "b"

-- (a) b;
a_cast : run [] (OpenParen ∷ (Id a ∷ (CloseParen ∷ (Id b ∷ (Semicolon ∷ []))))) start ≡ (Some (done (e.Cast 0 a (e.Var 1 b))), casts 1 ∷ (used_name a ∷ (other_token ∷ (var_name b ∷ (other_token ∷ [])))))
unfolding run
a_cast = refl

-- (a).b;
a_bracket : run [] (OpenParen ∷ (Id a ∷ (CloseParen ∷ (Dot ∷ (Id b ∷ (Semicolon ∷ [])))))) start ≡ (Some (done (e.Get 1 (e.Var 0 a) b)), opens 1 ∷ (var_name a ∷ (other_token ∷ (node ∷ (used_name b ∷ (other_token ∷ []))))))
unfolding run
a_bracket = refl

-- this.b(@a new a(), (a) b);
a_call : run (a ∷ []) (ThisWord ∷ (Dot ∷ (Id b ∷ (OpenParen ∷ (At ∷ (Id a ∷ (NewWord ∷ (Id a ∷ (OpenParen ∷ (CloseParen ∷ (Comma ∷ (OpenParen ∷ (Id a ∷ (CloseParen ∷ (Id b ∷ (CloseParen ∷ (Semicolon ∷ []))))))))))))))))) start
    ≡ (Some (done (e.Call 1 (e.Var 0 (codes "this")) b (record { colors = record { on = 1; off = 0 }; expr = e.New 2 a [] } ∷ (record { colors = no_colors; expr = e.Cast 3 a (e.Var 4 b) } ∷ [])))), node ∷ (node ∷ (used_name b ∷ (opens 1 ∷ (other_token ∷ (mark_name a ∷ (node ∷ (used_name a ∷ (opens 2 ∷ (other_token ∷ (other_token ∷ (casts 2 ∷ (used_name a ∷ (other_token ∷ (var_name b ∷ (other_token ∷ (other_token ∷ [])))))))))))))))))
unfolding run a
a_call = refl

-- new a(@!a @a b); of marks of one feature the first counts
an_unwanted : run (a ∷ []) (NewWord ∷ (Id a ∷ (OpenParen ∷ (At ∷ (Bang ∷ (Id a ∷ (At ∷ (Id a ∷ (Id b ∷ (CloseParen ∷ (Semicolon ∷ []))))))))))) start
    ≡ (Some (done (e.New 0 a (record { colors = record { on = 0; off = 1 }; expr = e.Var 1 b } ∷ []))), node ∷ (used_name a ∷ (opens 1 ∷ (other_token ∷ (sign ∷ (mark_name a ∷ (other_token ∷ (mark_name a ∷ (var_name b ∷ (other_token ∷ (other_token ∷ [])))))))))))
unfolding run a
an_unwanted = refl

-- new a(@!!
twice_signed : (run [] (NewWord ∷ (Id a ∷ (OpenParen ∷ (At ∷ (Bang ∷ (Bang ∷ [])))))) start).0 ≡ None
unfolding run
twice_signed = refl

-- new this
stuck : (run [] (NewWord ∷ (ThisWord ∷ [])) start).0 ≡ None
unfolding run
stuck = refl

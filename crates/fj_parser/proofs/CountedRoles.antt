-- Roles that are counted one after another, as what waits is.
use Rattle.std.proofs.Common.{◌≡◌, ℕ, zero, suc, List, [], ◌∷◌, ◌++◌, Option, Some, None, refl, ap, subst, ◌∙◌, append_assoc}
use Rattle.std.proofs.lemmas.Option.{none-some}
use Rattle.std.specs.List.{slice_get}
use Rattle.cfj_model.specs.declared.fault.FaultKind.{FaultKind}
use Rattle.cfj_model.specs.Roles.{Role, opens, other_token, var_name, Tally, counted, broken_by}
use Rattle.expression_reader.specs.declared.roles.Settling.{Settling}
use Rattle.expression_reader.specs.declared.roles.Settling.TheVariants.{Stays, Bracket, Cast}
use Rattle.expression_reader.specs.Machine as expression
use Rattle.fj_parser.specs.Accepting.{BreaksAt, IsBrokenAt, AreCounted}
use Rattle.fj_parser.specs.Waiting.{settled_role}
use Rattle.fj_parser.specs.declared.waiting.Refusal.{Refusal}

-- an element of a list is one of a longer list
pub get-append : (xs ys : List ℕ) (i x : ℕ) → slice_get xs i ≡ Some x → slice_get (xs ++ ys) i ≡ Some x
get-append [] ys i x e = absurd (none-some x e)
get-append (y ∷ xs) ys zero x e = e
get-append (y ∷ xs) ys (suc i) x e = get-append xs ys i x e

-- ---- the first fault of roles

pub one_broken : (t : Tally) (r : Role) (at : ℕ) (kind : FaultKind) → broken_by t r ≡ Some kind → IsBrokenAt t (r ∷ []) (at ∷ []) at kind
one_broken t r at kind h = record { place = 0; breaks = record { before = []; r = r; after = []; all = refl; within = tt; breaks = h; there = refl }; there = refl }

-- more roles behind
pub breaks_more : (t : Tally) (rs qs : List Role) (place : ℕ) (kind : FaultKind) → BreaksAt t rs place kind → BreaksAt t (rs ++ qs) place kind
breaks_more t rs qs place kind b =
    record { before = b.before; r = b.r; after = b.after ++ qs; all = ap (λ z. z ++ qs) b.all ∙ append_assoc b.before (b.r ∷ b.after) qs; within = b.within; breaks = b.breaks; there = b.there }

pub broken_more : (t : Tally) (rs qs : List Role) (places more : List ℕ) (at : ℕ) (kind : FaultKind) → IsBrokenAt t rs places at kind → IsBrokenAt t (rs ++ qs) (places ++ more) at kind
broken_more t rs qs places more at kind b =
    record { place = b.place; breaks = breaks_more t rs qs b.place kind b.breaks; there = get-append places more b.place at b.there }

-- a role before that breaks nothing
broken_behind : (t : Tally) (r : Role) (rs : List Role) (p : ℕ) (places : List ℕ) (at : ℕ) (kind : FaultKind) → broken_by t r ≡ None → IsBrokenAt (counted t r) rs places at kind → IsBrokenAt t (r ∷ rs) (p ∷ places) at kind
broken_behind t r rs p places at kind fine b =
    let k = b.breaks in
    record {
      place = suc b.place;
      breaks = record { before = r ∷ k.before; r = k.r; after = k.after; all = ap (λ z. r ∷ z) k.all; within = (fine, k.within); breaks = k.breaks; there = ap suc k.there };
      there = b.there;
    }

-- ---- roles that are counted

-- two, one after another
pub both_counted : (t u v : Tally) (r q : Role) (p o : ℕ) (result : Option Refusal) → AreCounted t (r ∷ []) (p ∷ []) u None → AreCounted u (q ∷ []) (o ∷ []) v result → AreCounted t (r ∷ (q ∷ [])) (p ∷ (o ∷ [])) v result
both_counted t u v r q p o None first second =
    let also : AreCounted (counted t r) (q ∷ []) (o ∷ []) v None = subst (λ z. AreCounted z (q ∷ []) (o ∷ []) v None) first.1 second in
    ((first.0.0, also.0), also.1)
both_counted t u v r q p o (Some refusal) first second =
    broken_behind t r (q ∷ []) p (o ∷ []) refusal.at refusal.kind first.0.0 (subst (λ z. IsBrokenAt z (q ∷ []) (o ∷ []) refusal.at refusal.kind) first.1 second)

-- and a bracket that closes, which breaks nothing and counts for nothing
plain_counted : (t u : Tally) (r q : Role) (p o x : ℕ) (result : Option Refusal) → AreCounted t (r ∷ (q ∷ [])) (p ∷ (o ∷ [])) u result → AreCounted t (r ∷ (q ∷ (other_token ∷ []))) (p ∷ (o ∷ (x ∷ []))) u result
plain_counted t u r q p o x None h = ((h.0.0, (h.0.1.0, (refl, tt))), h.1)
plain_counted t u r q p o x (Some refusal) h = broken_more t (r ∷ (q ∷ [])) (other_token ∷ []) (p ∷ (o ∷ [])) (x ∷ []) refusal.at refusal.kind h

-- ---- what waits is settled

stayed : {A : Type 0} (c : Settling) → (c ≡ Stays → ⊥) → c ≡ Stays → A
stayed c other is = absurd (other is)

pub closed_settled : (c : Settling) → (c ≡ Stays → ⊥) → (t u : Tally) (d : ℕ) (w : List ℕ) (p o x : ℕ) (result : Option Refusal) → AreCounted t (settled_role c (opens d) ∷ (settled_role c (var_name w) ∷ [])) (p ∷ (o ∷ [])) u result → AreCounted t (expression.settled c (opens d ∷ (var_name w ∷ (other_token ∷ [])))) (p ∷ (o ∷ (x ∷ []))) u result
closed_settled Stays other t u d w p o x result h = stayed Stays other refl
closed_settled Bracket other t u d w p o x result h = plain_counted t u (settled_role Bracket (opens d)) (settled_role Bracket (var_name w)) p o x result h
closed_settled Cast other t u d w p o x result h = plain_counted t u (settled_role Cast (opens d)) (settled_role Cast (var_name w)) p o x result h

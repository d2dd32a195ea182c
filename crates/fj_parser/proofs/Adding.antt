-- What is added to a list of tokens: those that waited, as they are settled, and the token that settles them.
use denote.Enum.Bare.{sameb}
use Rattle.std.proofs.Common.{◌≡◌, ℕ, true, false, List, [], ◌∷◌, ◌++◌, length, map, take, refl, sym, ap, subst, ◌∙◌, append_assoc}
use Rattle.std.proofs.lemmas.Bool.{true≢false}
use Rattle.std.proofs.lemmas.List.{append-nil, map_push}
use Rattle.cfj_model.specs.Roles.{Role, other_token}
use Rattle.cfj_words.specs.Tokens.{Token}
use Rattle.expression_reader.specs.Machine as expression
use Rattle.expression_reader.specs.contracts.roles.Settling.{the_type}
use Rattle.expression_reader.specs.declared.roles.Settling.{Settling}
use Rattle.expression_reader.specs.declared.roles.Settling.TheVariants.{Stays, Bracket, Cast}
use Rattle.fj_machine.specs.Machine.{State, emitted, pending, role, settles, waits}
use Rattle.fj_symbols.specs.Views.{role_seen}
use Rattle.fj_parser.specs.Listing.{Adds}
use Rattle.fj_parser.specs.TokenRoles.{places_in, roles_in}
use Rattle.fj_parser.specs.Waiting.{settled_places, settled_role, waiting_places, waiting_roles}
use Rattle.fj_parser.specs.declared.token_role.TokenRole.{TokenRole}
use Rattle.fj_parser.specs.declared.waiting.Waiting.{Waiting}
use Rattle.fj_parser.specs.declared.waiting.Waiting.TheVariants as waiting
use Rattle.fj_parser.proofs.Accepted.{settles_itself, settles_others}
use Rattle.fj_parser.proofs.Behind.{nothing_left}

-- one token
pub added : (old new : List TokenRole) (r : TokenRole) → new ≡ old ++ r ∷ [] → Adds old (role_seen r.role ∷ []) (r.at ∷ []) new
added old new r is =
    record {
      in_roles = ap roles_in is ∙ map_push (λ (t : TokenRole). role_seen t.role) old r;
      at_places = ap places_in is ∙ map_push (λ (t : TokenRole). t.at) old r;
    }

-- none
pub adds_none : (list : List TokenRole) → Adds list [] [] list
adds_none list = record { in_roles = sym (append-nil (roles_in list)); at_places = sym (append-nil (places_in list)) }

-- some, and then others
pub adds_both : (a b c : List TokenRole) (rs qs : List Role) (ps os : List ℕ) → Adds a rs ps b → Adds b qs os c → Adds a (rs ++ qs) (ps ++ os) c
adds_both a b c rs qs ps os f g =
    record {
      in_roles = g.in_roles ∙ ap (λ x. x ++ qs) f.in_roles ∙ append_assoc (roles_in a) rs qs;
      at_places = g.at_places ∙ ap (λ x. x ++ os) f.at_places ∙ append_assoc (places_in a) ps os;
    }

-- the same roles at the same places
adds_so : (a b : List TokenRole) (rs qs : List Role) (ps os : List ℕ) → rs ≡ qs → ps ≡ os → Adds a rs ps b → Adds a qs os b
adds_so a b rs qs ps os r p f =
    record {
      in_roles = f.in_roles ∙ ap (λ x. roles_in a ++ x) r;
      at_places = f.at_places ∙ ap (λ x. places_in a ++ x) p;
    }

-- ---- those that waited

-- what is settled has its role by what becomes of it
settled_each : (c : Settling) (w : Waiting) → (c ≡ Stays → ⊥) → map (settled_role c) (waiting_roles w) ≡ expression.settled c (waiting_roles w)
settled_each Stays w other = absurd (other refl)
settled_each Bracket waiting.Nothing other = refl
settled_each Bracket (waiting.Bracket b) other = refl
settled_each Bracket (waiting.Name b n) other = refl
settled_each Bracket (waiting.Closed b n x) other = refl
settled_each Cast waiting.Nothing other = refl
settled_each Cast (waiting.Bracket b) other = refl
settled_each Cast (waiting.Name b n) other = refl
settled_each Cast (waiting.Closed b n x) other = refl

places_each : (c : Settling) (places : List ℕ) → (c ≡ Stays → ⊥) → places ≡ settled_places c places
places_each Stays places other = absurd (other refl)
places_each Bracket places other = refl
places_each Cast places other = refl

pub adds_waiting : (c : Settling) → (c ≡ Stays → ⊥) → (w v : Waiting) → w ≡ v → (old new : List TokenRole) → Adds old (map (settled_role c) (waiting_roles v)) (waiting_places v) new
    → Adds old (expression.settled c (waiting_roles w)) (settled_places c (waiting_places w)) new
adds_waiting c other w v is old new f =
    adds_so old new (map (settled_role c) (waiting_roles v)) _ (waiting_places v) _
    (settled_each c v other ∙ ap (λ x. expression.settled c (waiting_roles x)) (sym is))
    (places_each c (waiting_places v) other ∙ ap (λ x. settled_places c (waiting_places x)) (sym is)) f

-- what is equal to staying stays
pub is_stays : (c : Settling) → true ≡ sameb the_type c Stays → c ≡ Stays
is_stays Stays e = refl
is_stays Bracket e = absurd (true≢false e)
is_stays Cast e = absurd (true≢false e)

-- and what isn't doesn't
pub not_stays : (c : Settling) → false ≡ sameb the_type c Stays → c ≡ Stays → ⊥
not_stays c e is = true≢false (sym (subst (λ x. false ≡ sameb the_type x Stays) is e))

-- those that stay aren't added
pub adds_stays : (c : Settling) → c ≡ Stays → (w : Waiting) (list : List TokenRole) → Adds list (expression.settled c (waiting_roles w)) (settled_places c (waiting_places w)) list
adds_stays c is w list =
    adds_so list list [] _ [] _ (ap (λ x. expression.settled x (waiting_roles w)) (sym is)) (ap (λ x. settled_places x (waiting_places w)) (sym is)) (adds_none list)

-- the bracket that closes is no name
pub closes_so : (c : Settling) → other_token ≡ settled_role c other_token
closes_so Stays = refl
closes_so Bracket = refl
closes_so Cast = refl

-- ---- and the token itself

settled_front : (c : Settling) (w : Waiting) (at : ℕ) → settled_places c (waiting_places w) ≡ take (length (expression.settled c (waiting_roles w))) (waiting_places w ++ at ∷ [])
settled_front Stays w at = refl
settled_front Bracket waiting.Nothing at = refl
settled_front Bracket (waiting.Bracket b) at = refl
settled_front Bracket (waiting.Name b n) at = refl
settled_front Bracket (waiting.Closed b n x) at = refl
settled_front Cast waiting.Nothing at = refl
settled_front Cast (waiting.Bracket b) at = refl
settled_front Cast (waiting.Name b n) at = refl
settled_front Cast (waiting.Closed b n x) at = refl

all_front : (c : Settling) (w : Waiting) (r : Role) (at : ℕ) → expression.left c (waiting_roles w) ≡ []
    → settled_places c (waiting_places w) ++ at ∷ [] ≡ take (length (expression.settled c (waiting_roles w) ++ r ∷ [])) (waiting_places w ++ at ∷ [])
all_front Stays waiting.Nothing r at none = refl
all_front Stays (waiting.Bracket b) r at none = absurd (let no : ⊥ = cc none in no)
all_front Stays (waiting.Name b n) r at none = absurd (let no : ⊥ = cc none in no)
all_front Stays (waiting.Closed b n x) r at none = absurd (let no : ⊥ = cc none in no)
all_front Bracket waiting.Nothing r at none = refl
all_front Bracket (waiting.Bracket b) r at none = refl
all_front Bracket (waiting.Name b n) r at none = refl
all_front Bracket (waiting.Closed b n x) r at none = refl
all_front Cast waiting.Nothing r at none = refl
all_front Cast (waiting.Bracket b) r at none = refl
all_front Cast (waiting.Name b n) r at none = refl
all_front Cast (waiting.Closed b n x) r at none = refl

-- the places of the tokens that this one settles
abbrev pub places_settled : State → Token → Waiting → ℕ → List ℕ
places_settled s token w at = take (length (emitted s token)) (waiting_places w ++ at ∷ [])

-- A token that waits settles others.
pub adds_others : (s : State) (w : Waiting) (token : Token) (at : ℕ) (c : Settling) (old new : List TokenRole) → waiting_roles w ≡ pending s → waits s token ≡ true → c ≡ settles s token
    → Adds old (expression.settled c (waiting_roles w)) (settled_places c (waiting_places w)) new → Adds old (emitted s token) (places_settled s token w at) new
adds_others s w token at c old new is own settling f =
    let all : expression.settled c (waiting_roles w) ≡ emitted s token =
    ap (λ x. expression.settled x (waiting_roles w)) settling ∙ ap (expression.settled (settles s token)) is ∙ sym (settles_others s token own) in
    adds_so old new _ (emitted s token) _ (places_settled s token w at) all (settled_front c w at ∙ ap (λ rs. take (length rs) (waiting_places w ++ at ∷ [])) all) f

-- One that doesn't settles itself behind them.
pub adds_itself : (s : State) (w : Waiting) (token : Token) (at : ℕ) (c : Settling) (old mid new : List TokenRole) → waiting_roles w ≡ pending s → waits s token ≡ false → c ≡ settles s token
    → Adds old (expression.settled c (waiting_roles w)) (settled_places c (waiting_places w)) mid → Adds mid (role s token ∷ []) (at ∷ []) new → Adds old (emitted s token) (places_settled s token w at) new
adds_itself s w token at c old mid new is own settling f g =
    let all : expression.settled c (waiting_roles w) ++ role s token ∷ [] ≡ emitted s token =
    ap (λ rs. rs ++ role s token ∷ []) (ap (λ x. expression.settled x (waiting_roles w)) settling ∙ ap (expression.settled (settles s token)) is) ∙ sym (settles_itself s token own) in
    let none : expression.left c (waiting_roles w) ≡ [] = ap (λ x. expression.left x (waiting_roles w)) settling ∙ ap (expression.left (settles s token)) is ∙ nothing_left s token own in
    adds_so old new _ (emitted s token) _ (places_settled s token w at) all (all_front c w (role s token) at none ∙ ap (λ rs. take (length rs) (waiting_places w ++ at ∷ [])) all)
    (adds_both old mid new _ (role s token ∷ []) _ (at ∷ []) f g)

-- Values that are followed one by one.
use Rattle.std.proofs.Common.{◌≡◌, ℕ, zero, suc, ◌+◌, ◌<◌, ◌≤◌, ◌⊎◌, inl, inr, Bool, true, false, not, List, [], ◌∷◌, ◌++◌, length, get_or, take, replicate, slice_get, slice_set, Option, Some, None, is_some, Result, Ok, Err, refl, sym, ◌∙◌, ap, subst, arith}
use Rattle.std.specs.Prelude.{All, IfOk, OnOk, IfNone, sum_by}
use Rattle.std.proofs.lemmas.List.{length-set, get_or-set_same}
use Rattle.std.proofs.lemmas.Option.{slice_get_within}
use Rattle.cfj_logic.specs.declared.clauses.Literal.{Literal}
use Rattle.cfj_logic.specs.UnitClauses.{Values, value_of, IsFalse, with_true}
use Rattle.cfj_logic.specs.Logs.{AreBelow}
use Rattle.cfj_words.specs.Lists.{Has}
use Rattle.unit_propagation.specs.declared.pair.Pair.{Pair}
use Rattle.unit_propagation.specs.declared.trail.Step.{Step}
use Rattle.unit_propagation.specs.declared.watches.Watches.{Watches}
use Rattle.unit_propagation.specs.Standings.{IsOpen, AreOpen, unvalued}
use Rattle.unit_propagation.specs.Trails.{Grows, still, by_unit_at}
use Rattle.unit_propagation.specs.Visits.{HasTwoUnvalued, Settles}
use Rattle.unit_propagation.specs.Walks.{IsWithin, AreFollowed, FollowsOne, IsAwaited, AreFollowedBut, AreSettled}
use Rattle.unit_propagation.specs.Watched.{IsOf, AreTwoOf, IsShort, AreWatchedAt, IsTrueIn, IsKept, Handled, HandledWith}
use Rattle.unit_propagation.proofs.Growing.{grows_reaches}
use Rattle.unit_propagation.proofs.Listing.{longer_by}
use Rattle.unit_propagation.proofs.Members.{length_one, lt_or_ge, all_has, one_item, slice_get_left, slice_get_end, taken_next}
use Rattle.unit_propagation.proofs.Standing.{unvalued_falls}
use Rattle.unit_propagation.proofs.UnitSteps.{set_cases, one_value, no_value, value_cases, reaches_within}
use Rattle.unit_propagation.proofs.Watching.{true_within}

-- ---- values

value_past : (vs : Values) (x : ℕ) → length vs ≤ x → value_of vs x ≡ None
value_past [] x le = refl
value_past (v ∷ vs) zero le = absurd (omega arith)
value_past (v ∷ vs) (suc x) le = value_past vs x (omega arith)

-- a variable that has a value is one
pub valued_below : (vs : Values) (x : ℕ) (b : Bool) → value_of vs x ≡ Some b → x < length vs
valued_below vs x b e = go (lt_or_ge x (length vs))
  where
    go : (x < length vs) ⊎ (length vs ≤ x) → x < length vs
    go (inl lt) = lt
    go (inr le) = absurd (no_value vs x b (value_past vs x le) e)

none_valued : (n x : ℕ) (b : Bool) → value_of (replicate n None) x ≡ Some b → ⊥
none_valued zero x b e = let no : ⊥ = cc e in no
none_valued (suc n) zero b e = let no : ⊥ = cc e in no
none_valued (suc n) (suc x) b e = none_valued n x b e

pub grown_within : (cs : List (List Literal)) (vs ws : Values) (t u : List Step) → Grows cs vs t ws u → IsWithin vs ws
grown_within cs vs ws t u g = reaches_within cs vs ws (grows_reaches cs vs ws t u g)

-- ---- one more value

-- no value has been followed
pub followed_first : (cs : List (List Literal)) (ps : List Pair) (n : ℕ) (ds vs : Values) → ds ≡ replicate n None → length ds ≡ length vs → AreFollowed cs ps ds vs
followed_first cs ps n ds vs is size = record {
  size = size;
  within = λ x b e. absurd (none_valued n x b (ap (λ w. value_of w x) (sym is) ∙ e));
  handled = λ k c p at m of f. absurd (none_valued n m.var (not m.on) (ap (λ w. value_of w m.var) (sym is) ∙ f));
}

-- it has no value
pub follows_none : (cs : List (List Literal)) (ps : List Pair) (ds vs : Values) (x : ℕ) → AreFollowed cs ps ds vs → value_of vs x ≡ None → FollowsOne cs ps ds ds vs x
follows_none cs ps ds vs x f is = record { followed = f; kept = λ y b e. e; done = λ b e. absurd (no_value vs x b is e) }

-- it has been followed
pub follows_done : (cs : List (List Literal)) (ps : List Pair) (ds vs : Values) (x : ℕ) (d : Bool) → AreFollowed cs ps ds vs → value_of ds x ≡ Some d → FollowsOne cs ps ds ds vs x
follows_done cs ps ds vs x d f is = record { followed = f; kept = λ y b e. e; done = λ b e. is ∙ ap Some (one_value vs x d b (f.within x d is) e) }

pub follows_one : (cs : List (List Literal)) (ps qs : List Pair) (ds vs ws : Values) (x : ℕ) (on : Bool) → AreFollowed cs ps ds vs → value_of vs x ≡ Some on → value_of ds x ≡ None → length ws ≡ length vs → IsWithin vs ws →
    HandledWith cs qs ds (record { var = x; on = not on }) ws → FollowsOne cs qs ds (slice_set ds x (Some on)) ws x
follows_one cs ps qs ds vs ws x on f is none size grown h = record {
  followed = record { size = length-set ds x (Some on) ∙ f.size ∙ sym size; within = λ y b e. within y b e (set_cases ds x y (Some on)); handled = λ k c p at m of e. h k c p at m of (false_now m e (set_cases ds x m.var (Some on))) };
  kept = λ y b e. kept y b e (set_cases ds x y (Some on));
  done = λ b e. get_or-set_same ds x (Some on) None below ∙ ap Some (one_value ws x on b (grown x on is) e);
}
  where
    es : Values
    es = slice_set ds x (Some on)

    below : x < length ds
    below = let lt = valued_below vs x on is in let s = f.size in omega (arith, lt, s)

    within : (y : ℕ) (b : Bool) → value_of es y ≡ Some b → ((y ≡ x) × (value_of es y ≡ Some on)) ⊎ (value_of es y ≡ value_of ds y) → value_of ws y ≡ Some b
    within y b e (inl s) = ap (value_of ws) s.0 ∙ grown x on is ∙ ap Some (one_value es y on b s.1 e)
    within y b e (inr s) = grown y b (f.within y b (sym s ∙ e))

    kept : (y : ℕ) (b : Bool) → value_of ds y ≡ Some b → ((y ≡ x) × (value_of es y ≡ Some on)) ⊎ (value_of es y ≡ value_of ds y) → value_of es y ≡ Some b
    kept y b e (inl s) = absurd (no_value ds y b (ap (value_of ds) s.0 ∙ none) e)
    kept y b e (inr s) = s ∙ e

    turned : (a b : Bool) → a ≡ not b → b ≡ not a
    turned true true e = e
    turned true false e = refl
    turned false true e = refl
    turned false false e = e

    false_now : (m : Literal) → IsFalse es m → ((m.var ≡ x) × (value_of es m.var ≡ Some on)) ⊎ (value_of es m.var ≡ value_of ds m.var) → IsFalse ds m ⊎ (m ≡ record { var = x; on = not on })
    false_now m e (inl s) =
        let p : m.var ≡ x = s.0 in
        let q : m.on ≡ not on = turned on m.on (one_value es m.var on (not m.on) s.1 e) in
        inr (λ i. record { var = p i; on = q i })
    false_now m e (inr s) = inl (sym s ∙ e)

-- ---- what is still to follow

grows_front : (cs : List (List Literal)) (vs ws : Values) (t u : List Step) → Grows cs vs t ws u → (k : ℕ) (s : Step) → slice_get t k ≡ Some s → slice_get u k ≡ Some s
grows_front cs vs ws t u (still _ _) k s e = e
grows_front cs vs ws t u (by_unit_at _ _ _ _ place c l there unit g) k s e =
    let more = record { literal = l; cause = Some place } ∷ [] in
    grows_front cs (with_true vs l) ws (t ++ more) u g k s (slice_get_left t more k (slice_get_within t k s e) ∙ e)

pub grows_longer : (cs : List (List Literal)) (vs ws : Values) (t u : List Step) → Grows cs vs t ws u → length t ≤ length u
grows_longer cs vs ws t u (still _ _) = omega arith
grows_longer cs vs ws t u (by_unit_at _ _ _ _ place c l there unit g) =
    let step : Step = record { literal = l; cause = Some place } in
    let ih = grows_longer cs (with_true vs l) ws (t ++ step ∷ []) u g in
    let one = length_one t step in
    omega (arith, ih, one)

-- a value is an old one, or that of a step behind the old trail
grows_new : (cs : List (List Literal)) (vs ws : Values) (t u : List Step) → Grows cs vs t ws u → (x : ℕ) (b : Bool) → value_of ws x ≡ Some b → (value_of vs x ≡ Some b) ⊎ IsAwaited u (length t) x
grows_new cs vs ws t u (still _ _) x b e = inl e
grows_new cs vs ws t u (by_unit_at _ _ _ _ place c l there unit g) x b e = go (grows_new cs (with_true vs l) ws next u g x b e)
  where
    step : Step
    step = record { literal = l; cause = Some place }

    next : List Step
    next = t ++ step ∷ []

    longer : length t ≤ length next
    longer = longer_by (length t) t next step refl (omega arith)

    one : value_of (with_true vs l) x ≡ Some b → ((x ≡ l.var) × (value_of (with_true vs l) x ≡ Some l.on)) ⊎ (value_of (with_true vs l) x ≡ value_of vs x) → (value_of vs x ≡ Some b) ⊎ IsAwaited u (length t) x
    one now (inl s) = inr (record { place = length t; step = step; behind = omega arith; there = grows_front cs (with_true vs l) ws next u g (length t) step (slice_get_end t step); var = sym s.0 })
    one now (inr s) = inl (sym s ∙ now)

    go : (value_of (with_true vs l) x ≡ Some b) ⊎ IsAwaited u (length next) x → (value_of vs x ≡ Some b) ⊎ IsAwaited u (length t) x
    go (inl now) = one now (set_cases vs l.var x (Some l.on))
    go (inr a) = let behind = a.behind in inr (record { place = a.place; step = a.step; behind = omega (arith, behind, longer); there = a.there; var = a.var })

pub rest_first : (ds vs : Values) (t : List Step) (head : ℕ) → AreFollowedBut ds vs t head 0
rest_first ds vs t head x b e = inr (inr (omega arith))

pub rest_grown : (cs : List (List Literal)) (ds es vs ws : Values) (t u : List Step) (head at : ℕ) → IsWithin ds es → Grows cs vs t ws u → head ≤ length t → AreFollowedBut ds vs t head at → AreFollowedBut es ws u head at
rest_grown cs ds es vs ws t u head at kept g le rest x b e = go (grows_new cs vs ws t u g x b e)
  where
    old : (value_of ds x ≡ Some b) ⊎ (IsAwaited t head x ⊎ (at ≤ x)) → (value_of es x ≡ Some b) ⊎ (IsAwaited u head x ⊎ (at ≤ x))
    old (inl d) = inl (kept x b d)
    old (inr (inl a)) = inr (inl (record { place = a.place; step = a.step; behind = a.behind; there = grows_front cs vs ws t u g a.place a.step a.there; var = a.var }))
    old (inr (inr le)) = inr (inr le)

    go : (value_of vs x ≡ Some b) ⊎ IsAwaited u (length t) x → (value_of es x ≡ Some b) ⊎ (IsAwaited u head x ⊎ (at ≤ x))
    go (inl d) = old (rest x b d)
    go (inr a) = let behind = a.behind in inr (inl (record { place = a.place; step = a.step; behind = omega (arith, behind, le); there = a.there; var = a.var }))

at_or_past : (at x : ℕ) → at ≤ x → (x ≡ at) ⊎ (at + 1 ≤ x)
at_or_past at x le = grind (arith, le)

pub rest_value : (ds vs : Values) (t : List Step) (head at : ℕ) → ((b : Bool) → value_of vs at ≡ Some b → value_of ds at ≡ Some b) → AreFollowedBut ds vs t head at → AreFollowedBut ds vs t head (at + 1)
rest_value ds vs t head at done rest x b e = go (rest x b e)
  where
    here : (x ≡ at) ⊎ (at + 1 ≤ x) → (value_of ds x ≡ Some b) ⊎ (IsAwaited t head x ⊎ (at + 1 ≤ x))
    here (inl s) = inl (ap (value_of ds) s ∙ done b (ap (value_of vs) (sym s) ∙ e))
    here (inr le) = inr (inr le)

    go : (value_of ds x ≡ Some b) ⊎ (IsAwaited t head x ⊎ (at ≤ x)) → (value_of ds x ≡ Some b) ⊎ (IsAwaited t head x ⊎ (at + 1 ≤ x))
    go (inl d) = inl d
    go (inr (inl a)) = inr (inl a)
    go (inr (inr le)) = here (at_or_past at x le)

pub rest_step : (ds vs : Values) (t : List Step) (head at : ℕ) (s : Step) → slice_get t head ≡ Some s → ((b : Bool) → value_of vs s.literal.var ≡ Some b → value_of ds s.literal.var ≡ Some b) → AreFollowedBut ds vs t head at →
    AreFollowedBut ds vs t (head + 1) at
rest_step ds vs t head at s there done rest x b e = go (rest x b e)
  where
    here : (a : IsAwaited t head x) → (a.place ≡ head) ⊎ (head + 1 ≤ a.place) → (value_of ds x ≡ Some b) ⊎ (IsAwaited t (head + 1) x ⊎ (at ≤ x))
    here a (inl i) =
        let same : s ≡ a.step = one_item t head s a.step there (ap (slice_get t) (sym i) ∙ a.there) in
        let var : s.literal.var ≡ x = ap (λ (w : Step). w.literal.var) same ∙ a.var in
        inl (ap (value_of ds) (sym var) ∙ done b (ap (value_of vs) var ∙ e))
    here a (inr le) = inr (inl (record { place = a.place; step = a.step; behind = le; there = a.there; var = a.var }))

    go : (value_of ds x ≡ Some b) ⊎ (IsAwaited t head x ⊎ (at ≤ x)) → (value_of ds x ≡ Some b) ⊎ (IsAwaited t (head + 1) x ⊎ (at ≤ x))
    go (inl d) = inl d
    go (inr (inl a)) = here a (at_or_past head a.place a.behind)
    go (inr (inr le)) = inr (inr le)

-- the step at `head` was followed, and the trail grew
pub rest_next : (cs : List (List Literal)) (qs : List Pair) (ds es vs ws : Values) (t u : List Step) (head at : ℕ) (s : Step) → Grows cs vs t ws u → slice_get t head ≡ Some s → FollowsOne cs qs ds es ws s.literal.var → AreFollowedBut ds vs t head at →
    AreFollowedBut es ws u (head + 1) at × (head + 1 ≤ length u)
rest_next cs qs ds es vs ws t u head at s g there f rest =
    let within = slice_get_within t head s there in
    let later = grows_front cs vs ws t u g head s there in
    let lower = slice_get_within u head s later in
    (rest_step es ws u head at s later f.done (rest_grown cs ds es vs ws t u head at f.kept g (omega (arith, within)) rest), omega (arith, lower))

-- nothing is still to follow
pub followed_all : (cs : List (List Literal)) (ps : List Pair) (ds vs : Values) (t : List Step) (head : ℕ) → AreFollowed cs ps ds vs → AreFollowedBut ds vs t head (length vs) → length t ≤ head → Handled cs ps vs vs
followed_all cs ps ds vs t head f rest le k c p at m of e = f.handled k c p at m of (go (rest m.var (not m.on) e))
  where
    go : (value_of ds m.var ≡ Some (not m.on)) ⊎ (IsAwaited t head m.var ⊎ (length vs ≤ m.var)) → IsFalse ds m
    go (inl d) = d
    go (inr (inl a)) = let lt = slice_get_within t a.place a.step a.there in let behind = a.behind in absurd (omega (arith, lt, behind, le))
    go (inr (inr past)) = let lt = valued_below vs m.var (not m.on) e in absurd (omega (arith, lt, past))

-- ---- short clauses

pub settled_grown : (cs : List (List Literal)) (short : List ℕ) (vs ws : Values) → IsWithin vs ws → AreSettled cs short vs → AreSettled cs short ws
settled_grown cs short vs ws grown f = λ k h c there s. true_within vs ws c grown (f k h c there s)

-- one more short clause was settled
pub settled_next : (cs : List (List Literal)) (short : List ℕ) (vs ws : Values) (i d : ℕ) → i < length short → Settles cs vs ws (get_or short i d) false → IsWithin vs ws → AreSettled cs (take i short) vs → AreSettled cs (take (i + 1) short) ws
settled_next cs short vs ws i d lt s grown old = taken_next (λ k. (c : List Literal) → slice_get cs k ≡ Some c → IsShort c → IsTrueIn ws c) short i d lt (settled_grown cs (take i short) vs ws grown old) (λ c there short_c. now c short_c (s c there))
  where
    two : (c : List Literal) → IsShort c → HasTwoUnvalued vs c → ⊥
    two c short_c t = t.differ (short_c t.one t.two t.has_one t.has_two)

    now : (c : List Literal) → IsShort c → IsTrueIn ws c ⊎ HasTwoUnvalued vs c → IsTrueIn ws c
    now c short_c (inl t) = t
    now c short_c (inr t) = absurd (two c short_c t)

-- ---- all clauses

some_item : {A : Type 0} (xs : List A) (k : ℕ) → k < length xs → (x : A) × (slice_get xs k ≡ Some x)
some_item [] k lt = absurd (omega arith)
some_item (x ∷ xs) zero lt = (x, refl)
some_item (x ∷ xs) (suc k) lt = some_item xs k (omega arith)

pub all_open : (cs : List (List Literal)) (w : Watches) (short : List ℕ) (vs ws : Values) → IsKept cs w short → AreSettled cs short vs → IsWithin vs ws → Handled cs w.pairs.items ws ws → AreOpen cs ws
all_open cs w short vs ws kept settled grown h c has = with_pair (some_item w.pairs.items has.0 within)
  where
    within : has.0 < length w.pairs.items
    within = let lt = slice_get_within cs has.0 c has.1 in let long = kept.watched.long in omega (arith, lt, long)

    short_open : IsShort c → IsOpen ws c
    short_open s = inl (true_within vs ws c grown (settled has.0 (kept.short has.0 c has.1 s) c has.1 s))

    with_pair : (p : Pair) × (slice_get w.pairs.items has.0 ≡ Some p) → IsOpen ws c
    with_pair r = which (kept.watched.paired has.0 c r.0 has.1 r.1)
      where
        two_open : AreTwoOf c r.0 → IsOpen ws c
        two_open t = first (value_of ws r.0.first.var) refl
          where
            at : AreWatchedAt cs w.pairs.items has.0 c r.0
            at = record { clause = has.1; pair = r.1; two = t }

            valued : (m : Literal) (b : Bool) → Has c m → IsOf m r.0 → value_of ws m.var ≡ Some b → (b ≡ m.on) ⊎ (b ≡ not m.on) → IsOpen ws c
            valued m b k of e (inl s) = inl (m, k, e ∙ ap Some s)
            valued m b k of e (inr s) = inl (h has.0 c r.0 at m of (e ∙ ap Some s))

            second : value_of ws r.0.first.var ≡ None → (v : Option Bool) → value_of ws r.0.second.var ≡ v → IsOpen ws c
            second d (Some b) e = valued r.0.second b t.second (inr refl) e (value_cases b r.0.second.on)
            second d None e = inr (r.0.first, r.0.second, t.first, t.second, d, e, t.differ)

            first : (v : Option Bool) → value_of ws r.0.first.var ≡ v → IsOpen ws c
            first (Some b) e = valued r.0.first b t.first (inl refl) e (value_cases b r.0.first.on)
            first None e = second e (value_of ws r.0.second.var) refl

        which : AreTwoOf c r.0 ⊎ IsShort c → IsOpen ws c
        which (inl t) = two_open t
        which (inr s) = short_open s

-- ---- steps to go

-- as the trail grows, fewer variables are without a value
pub grows_measure : (cs : List (List Literal)) (vs ws : Values) (t u : List Step) → All (AreBelow (length vs)) cs → Grows cs vs t ws u → sum_by unvalued ws + length u ≤ sum_by unvalued vs + length t
grows_measure cs vs ws t u below (still _ _) = omega arith
grows_measure cs vs ws t u below (by_unit_at _ _ _ _ place c l there unit g) =
    let step : Step = record { literal = l; cause = Some place } in
    let lt : l.var < length vs = all_has (λ (w : Literal). w.var < length vs) c l (all_has (AreBelow (length vs)) cs c below (place, there)) unit.has in
    let fall = unvalued_falls vs l lt unit.unvalued in
    let size : length (with_true vs l) ≡ length vs = length-set vs l.var (Some l.on) in
    let ih = grows_measure cs (with_true vs l) ws (t ++ step ∷ []) u (subst (λ n. All (AreBelow n) cs) (sym size) below) g in
    let one : length (t ++ step ∷ []) ≡ length t + 1 = length_one t step in
    omega (arith, fall, ih, one)

-- ---- what was found

pub none_of : (v : Option Bool) → is_some v ≡ false → v ≡ None
none_of None e = refl
none_of (Some b) e = absurd (let no : ⊥ = cc e in no)

pub where_none : (o : Option ℕ) (P : Type 0) → is_some o ≡ false → IfNone o P → P
where_none None P e p = p
where_none (Some k) P e p = absurd (let no : ⊥ = cc e in no)

pub if_none : (o : Option ℕ) (P Q : Type 0) → (P → Q) → IfNone o P → IfNone o Q
if_none None P Q f p = f p
if_none (Some k) P Q f p = tt

-- where nothing was found, all clauses are open
pub opened : {E : Type 0} (r : Result (Option ℕ) E) (cs : List (List Literal)) (w : Watches) (short : List ℕ) (us ws : Values) (t u : List Step) → IsKept cs w short → AreSettled cs short us → OnOk r (Grows cs us t ws u) →
    IfOk r (λ o. IfNone o (Handled cs w.pairs.items ws ws)) → IfOk r (λ o. IfNone o (AreOpen cs ws))
opened (Ok o) cs w short us ws t u kept settled g h = if_none o (Handled cs w.pairs.items ws ws) (AreOpen cs ws) (all_open cs w short us ws kept settled (grown_within cs us ws t u g)) h
opened (Err e) cs w short us ws t u kept settled g h = h

-- How what two calls add is what one adds.
use Rattle.std.proofs.Common.{subst, OnOk, IsErr, ◌≡◌, refl, sym, ap, ◌∙◌, ℕ, ◌≤◌, List, [], ◌++◌, length, take, drop, Result, Ok, Err, Some, None, length-append, append-nil, arith}
use Rattle.std.proofs.lemmas.List.{append_assoc, take-append-drop}
use Rattle.std.proofs.lemmas.Result.{IfOk-from_err}
use Rattle.cide_io.specs.declared.faults.Failed.{Failed}
use Rattle.cide_io.specs.Faults.{HasCause, Rose}
use Rattle.cide_io.specs.Known.{Known, appended, IsCut, IsAdded}
use Rattle.cide_io.specs.Changes.{Gains}
use Rattle.cide_io.specs.declared.sinks.Sink as sink
use Rattle.fj_printer.specs.Adds.{Outlet, IsPassed, Carries, outlet}

appended_twice : (known : Known) (x y : List ℕ) → appended (appended known x) y ≡ appended known (x ++ y)
appended_twice None x y = refl
appended_twice (Some bytes) x y = ap Some (append_assoc bytes x y)

rose_since : (a b c : ℕ) → a ≤ b → Rose b c → Rose a c
rose_since a b c l r = omega arith

pub cause_then : {X F T E : Type 0} {a b c : ℕ} {q : Result X F} {r : Result T E} → HasCause a b q → HasCause b c r → HasCause a c r
cause_then {a = a} {b = b} {c = c} {r = Ok x} h k = record { later = omega arith; cause = tt }
cause_then {a = a} {b = b} {c = c} {r = Err x} h k = record { later = omega arith; cause = rose_since a b c h.later k.cause }

-- the bytes on both sides of a seam
regrouped : (before p q sent after : List ℕ) → before ++ p ≡ sent ++ after → before ++ (p ++ q) ≡ sent ++ (after ++ q)
regrouped before p q sent after e =
    sym (append_assoc before p q) ∙ ap (λ w. w ++ q) e ∙ append_assoc sent after q

passed_then : {a b c : Outlet} {p q : List ℕ} → IsPassed a b p → IsPassed b c q → IsPassed a c (p ++ q)
passed_then {a} {b} {c} {p} {q} h k = record {
  sent = h.sent ++ k.sent;
  split = regrouped a.pending p q h.sent b.pending h.split ∙ ap (λ w. h.sent ++ w) k.split ∙ sym (append_assoc h.sent k.sent c.pending);
  gained = k.gained ∙ ap (λ w. appended w k.sent) h.gained ∙ appended_twice a.held h.sent k.sent;
}

cut_then : {a b : Outlet} {p : List ℕ} (c : Outlet) (q : List ℕ) → IsPassed a b p → IsCut b.held c.held (b.pending ++ q) → IsCut a.held c.held (a.pending ++ (p ++ q))
cut_then {a} {b} {p} c q h k = record {
  front = h.sent ++ k.front;
  back = k.back;
  proper = k.proper;
  split = regrouped a.pending p q h.sent b.pending h.split ∙ ap (λ w. h.sent ++ w) k.split ∙ sym (append_assoc h.sent k.front k.back);
  gained = k.gained ∙ ap (λ w. appended w k.front) h.gained ∙ appended_twice a.held h.sent k.front;
}

cut_before : {old new : Known} (before p q : List ℕ) → IsCut old new (before ++ p) → IsCut old new (before ++ (p ++ q))
cut_before before p q k = record {
  front = k.front;
  back = k.back ++ q;
  proper = let h = k.proper in omega (arith, length-append k.back q);
  split = regrouped before p q k.front k.back k.split;
  gained = k.gained;
}

-- one text, and then another
pub adds_then : {a b c : Outlet} {p q : List ℕ} {u : Unit {0}} {r : Result Unit Failed} → Carries a b p (Ok u) → Carries b c q r → Carries a c (p ++ q) r
adds_then {a} {b} {c} {p} {q} {r = Ok v} h k = record {
  taken = passed_then h.taken k.taken;
  named = k.named ∙ h.named;
  cause = cause_then h.cause k.cause;
}
adds_then {a} {b} {c} {p} {q} {r = Err e} h k = record {
  taken = cut_then c q h.taken k.taken;
  named = k.named ∙ h.named;
  cause = cause_then h.cause k.cause;
}

-- a text that is told in another way
pub adds_as : {a b : Outlet} {p q : List ℕ} {r : Result Unit Failed} → q ≡ p → Carries a b p r → Carries a b q r
adds_as {a} {b} {r = r} e h = let P : List ℕ → Type 0 = λ t. Carries a b t r in subst P (sym e) h

-- a text after which nothing more is tried
pub adds_before : {a b : Outlet} {p : List ℕ} {e : Failed} (q : List ℕ) → Carries a b p (Err e) → Carries a b (p ++ q) (Err e)
adds_before {a} {p = p} q h = record { taken = cut_before a.pending p q h.taken; named = h.named; cause = h.cause }

gained_nothing : (known : Known) → known ≡ appended known []
gained_nothing None = refl
gained_nothing (Some bytes) = ap Some (sym (append-nil bytes))

-- the front of what waits goes to the sink
pub adds_sent : (a b : Outlet) (n : ℕ) → b.held ≡ appended a.held (take n a.pending) → b.pending ≡ drop n a.pending → b.name ≡ a.name → HasCause {T = ℕ} {E = Failed} a.faults b.faults (Ok n) → Carries a b [] (Ok tt)
adds_sent a b n gained left named cause = record {
  taken = record {
    sent = take n a.pending;
    split = append-nil a.pending ∙ sym (take-append-drop n a.pending) ∙ ap (λ w. take n a.pending ++ w) (sym left);
    gained = gained;
  };
  named = named;
  cause = record { later = cause.later; cause = tt };
}

-- after one more part all parts so far are added
pub adds_more : {a b c : Outlet} {done part more : List ℕ} {u v w : Unit {0}} → Carries a b done (Ok u) → Carries b c part (Ok v) → more ≡ done ++ part → Carries a c more (Ok w)
adds_more {a} {c = c} {w = w} h k e = let P : List ℕ → Type 0 = λ t. Carries a c t (Ok w) in subst P (sym e) (adds_then h k)

-- where a part fails, the whole fails
pub adds_stopped : {a b c : Outlet} {done part whole : List ℕ} {u : Unit {0}} {e : Failed} (rest : List ℕ) (result : Result Unit Failed) → IsErr result → Carries a b done (Ok u) → Carries b c part (Err e) → whole ≡ done ++ (part ++ rest) → Carries a c whole result
adds_stopped {a} {c = c} {e = e} rest (Err f) is h k w =
    let P : List ℕ → Type 0 = λ t. Carries a c t (Err f) in subst P (sym w) (adds_then h (adds_before rest (any k)))
  where
    any : {b c : Outlet} {t : List ℕ} → Carries b c t (Err e) → Carries b c t (Err f)
    any h = record { taken = h.taken; named = h.named; cause = record { later = h.cause.later; cause = h.cause.cause } }
adds_stopped rest (Ok u) is h k w = absurd (let no : ⊥ = cc is in no)

-- a piece goes behind what waits
pub adds_behind : (a b : Outlet) (piece : List ℕ) → b.held ≡ a.held → b.name ≡ a.name → b.faults ≡ a.faults → b.pending ≡ a.pending ++ piece → Carries a b piece (Ok tt)
adds_behind a b piece held name faults pending = record {
  taken = record { sent = []; split = sym pending; gained = held ∙ gained_nothing a.held };
  named = name;
  cause = record { later = omega arith; cause = tt };
}

-- where a part fails, what was to come behind it doesn't matter
pub adds_failed : {a b : Outlet} {p : List ℕ} {e : Failed} (rest : List ℕ) (result : Result Unit Failed) → IsErr result → Carries a b p (Err e) → Carries a b (p ++ rest) result
adds_failed rest (Err f) is h = let k = adds_before rest h in record { taken = k.taken; named = k.named; cause = record { later = k.cause.later; cause = k.cause.cause } }
adds_failed rest (Ok u) is h = absurd (let no : ⊥ = cc is in no)

-- A sink in front of which nothing waits gained a text.
pub record Whole (old new : Outlet) (text : List ℕ) (result : Result Unit Failed) : Type 0 where
  pub added : IsAdded old.held new.held text result
  pub named : new.name ≡ old.name
  pub cause : HasCause old.faults new.faults result

-- the same, as contracts say it
pub gains : {K : Type 0} (k : sink.Ghosts K) (old new : K) (before after text : List ℕ) (result : Result Unit Failed)
    → Whole (outlet k.held k.name k.faults old before) (outlet k.held k.name k.faults new after) text result → Gains k old new text result
gains k old new before after text result h = record { added = h.added; named = h.named; cause = h.cause }

held_whole : {a b : Outlet} {text : List ℕ} (result : Result Unit Failed) → a.pending ≡ [] → OnOk result (b.pending ≡ []) → Carries a b text result → IsAdded a.held b.held text result
held_whole {a} {text = text} (Ok u) nothing empty h =
    let whole : text ≡ h.taken.sent = ap (λ w. w ++ text) (sym nothing) ∙ h.taken.split ∙ ap (λ w. h.taken.sent ++ w) empty ∙ append-nil h.taken.sent in
    h.taken.gained ∙ ap (λ w. appended a.held w) (sym whole)
held_whole {a} {b} {text = text} (Err e) nothing empty h = let P : List ℕ → Type 0 = λ w. IsCut a.held b.held (w ++ text) in subst P nothing h.taken

-- what is added when nothing waits before or after
pub all_added : {a b : Outlet} {text : List ℕ} (result : Result Unit Failed) → a.pending ≡ [] → OnOk result (b.pending ≡ []) → Carries a b text result → Whole a b text result
all_added result nothing empty h = record { added = held_whole result nothing empty h; named = h.named; cause = h.cause }

-- after the last bytes went to the sink
pub all_flushed : {a b c : Outlet} {text whole : List ℕ} {u : Unit {0}} (result : Result Unit Failed) → a.pending ≡ [] → OnOk result (c.pending ≡ []) → Carries a b text (Ok u) → Carries b c [] result → whole ≡ text → Whole a c whole result
all_flushed {a} {c = c} {text = text} result nothing empty h k w =
    let P : List ℕ → Type 0 = λ t. Carries a c t result in
    all_added result nothing empty (subst P (append-nil text ∙ sym w) (adds_then h k))

-- where a part fails before that
pub all_failed : {a b : Outlet} {part whole : List ℕ} {e : Failed} (rest : List ℕ) (result : Result Unit Failed) → IsErr result → a.pending ≡ [] → Carries a b part (Err e) → whole ≡ part ++ rest → Whole a b whole result
all_failed {a} {b} rest result is nothing h w =
    let P : List ℕ → Type 0 = λ t. Carries a b t result in
    all_added result nothing (IfOk-from_err result (λ _. b.pending ≡ []) is) (subst P (sym w) (adds_failed rest result is h))

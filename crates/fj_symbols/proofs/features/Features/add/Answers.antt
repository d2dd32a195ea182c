use Rattle.std.proofs.Common.{◌≡◌, ℕ, true, cond, is_some, List, [], ◌∷◌, ◌++◌, length, Some, None, Bor, sym, ap, subst, ◌∙◌}
use Rattle.std.specs.Map.{lookup}
use Rattle.std.specs.Str.{bytes_eq}
use Rattle.fj_symbols.specs.Places.{ArePlaced}
use Rattle.fj_symbols.proofs.FeaturePlaces.{copied-some, none-where, placed-again, placed-new}
use Rattle.fj_symbols.proofs.features.Features.add.Goals as goal

pub invariant_of-self-inside-then-is_some : goal.invariant_of-self-inside-then-is_some
invariant_of-self-inside-then-is_some c =
    let there : is_some (lookup (λ k. bytes_eq c.args.name.now k.now) c.self.inside.places.entries) ≡ true = ap is_some (sym c.get.ensures.value) ∙ copied-some c.get.result ∙ sym c.is_some.ensures ∙ c.if-is_some.true in
    let items : c.push.new.self.items ≡ c.self.inside.names.items ++ c.args.name.now ∷ [] = c.in_ok-push.ensures.items ∙ ap (λ (w : List ℕ). c.self.inside.names.items ++ w ∷ []) c.in_ok-text.ensures in
    (subst (λ ns. ArePlaced c.self.inside.places.entries ns) (sym items) (placed-again c.self.inside.places.entries c.self.inside.names.items c.args.name c.self.inside.placed there), tt)

pub invariant_of-self-inside-in-Ok : goal.invariant_of-self-inside-in-Ok
invariant_of-self-inside-in-Ok c =
    let none : lookup (λ k. bytes_eq c.args.name.now k.now) c.self.inside.places.entries ≡ None = none-where _ (ap is_some (sym c.get.ensures.value) ∙ copied-some c.get.result ∙ sym c.is_some.ensures ∙ c.if-is_some.false) in
    let items : c.push.new.self.items ≡ c.self.inside.names.items ++ c.args.name.now ∷ [] = c.in_ok-push.ensures.items ∙ ap (λ (w : List ℕ). c.self.inside.names.items ++ w ∷ []) c.in_ok-text.ensures in
    let place : c.len-place.result ≡ length c.self.inside.names.items = search in
    let more : (q : Bor (List ℕ)) → lookup (λ k. bytes_eq q.now k.now) c.insert.new.self.entries ≡ cond (bytes_eq c.args.name.now q.now) (Some c.len-place.result) (lookup (λ k. bytes_eq q.now k.now) c.self.inside.places.entries) = c.in-Ok.ensures.updates.0 in
    (subst (λ ns. ArePlaced c.insert.new.self.entries ns) (sym items) (placed-new c.self.inside.places.entries c.insert.new.self.entries c.self.inside.names.items c.args.name c.len-place.result c.self.inside.placed place none more), tt)

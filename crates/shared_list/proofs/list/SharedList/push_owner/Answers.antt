use Rattle.std.proofs.Common.{◌≡◌, ◌<◌, [], ◌∷◌, ◌++◌, length, true, arith, subst, sym, ap, ap₂, ◌∙◌, length-append}
use Rattle.shared_list.specs.Stretches.{are_full, joined}
use Rattle.shared_list.proofs.Stretches.{pushed_stretch, full_pushed}
use Rattle.shared_list.proofs.list.SharedList.push_owner.Given.{Over}
use Rattle.shared_list.proofs.list.SharedList.push_owner.Goals as goal

-- the stretch that the last items have become
stretch_is : (g : Over) (c : goal.After-self-3-1 g) → c.in_ok-new.field-0 ≡ c.self.inside.last.items ++ c.args.item ∷ []
stretch_is g c =
    let pushed : c.push-2.new.self.items ≡ c.in_ok-items.items.items ++ c.args.item ∷ [] = c.in_ok-push-2.ensures.items in
    c.in_ok-new.ensures ∙ c.of.ensures ∙ pushed ∙ ap (λ xs. xs ++ c.args.item ∷ []) (c.in_ok-items.ensures ∙ c.deref.ensures.value)

full_is : (g : Over) (c : goal.After-self-3-1 g) → c.push-3.new.self.items ≡ c.self.inside.full.items ++ (c.self.inside.last.items ++ c.args.item ∷ []) ∷ []
full_is g c =
    let pushed : c.push-3.new.self.items ≡ c.self.inside.full.items ++ c.in_ok-new.field-0 ∷ [] = c.in_ok-push-3.ensures.items in
    pushed ∙ ap (λ s. c.self.inside.full.items ++ s ∷ []) (stretch_is g c)

view_is : (g : Over) (c : goal.After-self-3-1 g) → joined c.push-3.new.self.items ++ c.clear.new.self.items ≡ (joined c.self.inside.full.items ++ c.self.inside.last.items) ++ c.args.item ∷ []
view_is g c =
    let none : c.clear.new.self.items ≡ [] = c.clear.ensures.items in
    ap₂ (λ f l. joined f ++ l) (full_is g c) none ∙ pushed_stretch c.self.inside.full.items c.self.inside.last.items c.args.item

pub invariant_of-self-2 : goal.invariant_of-self-2
invariant_of-self-2 g c =
    let l = c.self.inside in
    let none : c.clear.new.self.items ≡ [] = c.clear.ensures.items in
    let last = length-append l.last.items (c.args.item ∷ []) in
    let count : length (l.last.items ++ c.args.item ∷ []) ≡ 32 = omega (arith, last, c.len.ensures, l.last.ok, c.if-len-lt-CHUNK.false, c.self.invariant.1) in
    let full = subst (λ f. are_full f ≡ true) (sym (full_is g c)) (full_pushed l.full.items (l.last.items ++ c.args.item ∷ []) c.self.invariant.0 count) in
    let few : length c.clear.new.self.items < 32 = subst (λ xs. length xs < 32) (sym none) (omega arith) in
    let whole = length-append (joined l.full.items ++ l.last.items) (c.args.item ∷ []) in
    let counted : c.in-Some.count ≡ length ((joined l.full.items ++ l.last.items) ++ c.args.item ∷ []) = omega (arith, whole, c.in-Some.ensures.1, c.self.invariant.2) in
    (full, few, counted ∙ sym (ap length (view_is g c)))

pub returns-clause-pushed : goal.returns-clause-pushed
returns-clause-pushed g c = view_is g c ∙ ap (λ xs. xs ++ c.args.item ∷ []) c.self.view_is

use Rattle.std.proofs.Common.{◌≡◌, ℕ, List, Vec, Global, sym, ◌∙◌, ap, subst, IfOk, map, arith}
use Rattle.std.proofs.lemmas.Grind.{common_steps}
use Rattle.sp_plan.specs.Texts.{symbol_of, with_text}
use Rattle.sp_rows.proofs.Answered.{on_ok}
use Rattle.sp_rows.proofs.Numbered.{found_number, found_known, place_of_texts, added_text}
use Rattle.sp_rows.proofs.texts.Texts.find.Goals as goal

-- the bytes of a text in the set
abbrev bytes_of : Vec ℕ Global → List ℕ
bytes_of text = text.items

pub returns-in-Some-clause-number : goal.returns-in-Some-clause-number
returns-in-Some-clause-number c =
    let keys = c.self.inside.set.keys in
    let text = c.args.text.now in
    let is : c.in-Some.place ≡ symbol_of c.args.self.now text =
    found_number bytes_of text keys c.in-Some.place c.in-Some.ensures.index ∙ ap (λ (texts : List (List ℕ)). symbol_of texts text) c.self.view_is in
    subst (λ (k : ℕ). IfOk c.number_at.result (λ number. number ≡ k)) is c.number_at.ensures

pub returns-in-Some-clause-texts : goal.returns-in-Some-clause-texts
returns-in-Some-clause-texts c =
    let text = c.args.text.now in
    on_ok c.number_at.result (subst (λ (texts : List (List ℕ)). texts ≡ with_text texts text) c.self.view_is (found_known bytes_of text c.self.inside.set.keys (sym c.in-Some.ensures.found)))

pub returns-clause-number : goal.returns-clause-number
returns-clause-number c =
    let keys = c.self.inside.set.keys in
    let text = c.args.text.now in
    let is : c.in_ok-place.place ≡ symbol_of c.args.self.now text =
    c.in_ok-place.ensures.index ∙ place_of_texts bytes_of _ keys ∙ (λ i. symbol_of (c.self.view_is i) (c.in_ok-owned.ensures.items i)) in
    subst (λ (k : ℕ). IfOk c.number_at-2.result (λ number. number ≡ k)) is c.number_at-2.ensures

pub returns-clause-texts : goal.returns-clause-texts
returns-clause-texts c =
    on_ok c.number_at-2.result (ap (λ (keys : List (Vec ℕ Global)). map bytes_of keys) c.in_ok-place.ensures.keys ∙ added_text bytes_of c.self.inside.set.keys c.in_ok-owned.owned ∙ (λ i. with_text (c.self.view_is i) (c.in_ok-owned.ensures.items i)))

pub returns-in-Some-clause-kept : goal.returns-in-Some-clause-kept
returns-in-Some-clause-kept c = grind (arith, common_steps)

pub returns-in_err-owned-clause-kept : goal.returns-in_err-owned-clause-kept
returns-in_err-owned-clause-kept c = grind (arith, common_steps)

pub returns-in_err-place-clause-kept : goal.returns-in_err-place-clause-kept
returns-in_err-place-clause-kept c = grind (arith, common_steps)

pub returns-clause-kept : goal.returns-clause-kept
returns-clause-kept c = grind (arith, common_steps)

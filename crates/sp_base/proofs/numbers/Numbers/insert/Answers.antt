use Rattle.std.proofs.Common.{◌≡◌, ◌<◌, ◌++◌, ◌∷◌, [], ◌||◌, ◌==◌, false, not, sym, ap, subst, ◌∙◌}
use Rattle.std.specs.List.{All}
use Rattle.std.specs.List.Sorted.{IsStrictlyIncreasing}
use Rattle.sp_base.specs.Numbers.{NumberList, is_among}
use Rattle.sp_base.specs.Place.{IsPlace}
use Rattle.sp_base.proofs.Placed.{not_past, not_there, rising_inserted, has_inserted, inserted_last}
use Rattle.sp_base.proofs.numbers.Numbers.insert.Goals as goal

pub returns-then-is_at-clause-last : goal.returns-then-is_at-clause-last
returns-then-is_at-clause-last c = λ past.
    let same = c.deref-3.ensures.value ∙ ap (λ (v : NumberList). v.list) c.self.view_is in
    absurd (not_past c.args.self.now.list c.args.n (sym (c.if-is_at.ensures ∙ ap (λ l. is_among l c.args.n) same)) past)

with_it : (c : goal.In_ok-insert) → IsStrictlyIncreasing c.insert.new.self.items
with_it c =
    let place = subst (λ l. IsPlace c.args.n l c.place-at.result) c.deref-2.ensures.value c.place-at.ensures in
    let none : is_among c.self.inside.list.items c.args.n ≡ false = sym (c.if-is_at.ensures ∙ ap (λ l. is_among l c.args.n) c.deref-3.ensures.value) in
    subst IsStrictlyIncreasing (sym c.in_ok-insert.ensures.items)
    (rising_inserted c.self.inside.list.items c.args.n c.place-at.result c.self.invariant place none)

pub invariant_of-self-2 : goal.invariant_of-self-2
invariant_of-self-2 c = with_it c

pub returns-clause-rising : goal.returns-clause-rising
returns-clause-rising c = with_it c

pub returns-clause-members : goal.returns-clause-members
returns-clause-members c = λ m.
    ap (λ l. is_among l m) c.in_ok-insert.ensures.items
    ∙ has_inserted c.self.inside.list.items c.args.n c.place-at.result m
    ∙ ap (λ (v : NumberList). m == c.args.n || is_among v.list m) c.self.view_is

pub returns-clause-last : goal.returns-clause-last
returns-clause-last c = λ past.
    let place = subst (λ l. IsPlace c.args.n l c.place-at.result) c.deref-2.ensures.value c.place-at.ensures in
    let view = ap (λ (v : NumberList). v.list) c.self.view_is in
    c.in_ok-insert.ensures.items
    ∙ inserted_last c.self.inside.list.items c.args.n c.place-at.result place (subst (All (λ m. m < c.args.n)) (sym view) past)
    ∙ ap (λ l. l ++ c.args.n ∷ []) view

-- where the number is past the others
past : (c : goal.In_ok-push) → All (λ m. m < c.args.n) c.args.self.now.list
past c = subst (All (λ m. m < c.args.n)) (c.deref.ensures.value ∙ ap (λ (v : NumberList). v.list) c.self.view_is) (c.is_past.ensures.0 c.if-is_past.true)

pub returns-then-is_past-clause-added : goal.returns-then-is_past-clause-added
returns-then-is_past-clause-added c = ap not (sym (not_there c.args.self.now.list c.args.n (past c)))

pub returns-then-is_past-clause-there : goal.returns-then-is_past-clause-there
returns-then-is_past-clause-there c = λ there. absurd (not_past c.args.self.now.list c.args.n there (past c))

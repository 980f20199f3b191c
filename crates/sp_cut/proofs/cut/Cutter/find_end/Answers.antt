use Rattle.std.proofs.Common.{◌≡◌, ◌+◌, ◌-◌, ℕ, List, false, length, drop, sym, ◌∙◌, ap, subst, arith, length-drop}
use Rattle.std.specs.Prelude.{Some}
use Rattle.std.proofs.lemmas.List.{drop-drop}
use Rattle.sp_cut.specs.Left.{Left}
use Rattle.sp_cut.specs.Scan.{scan, EndsAt}
use Rattle.sp_cut.proofs.Going.{ends_behind, scanned_to_end, rest_behind, scanned_all}
use Rattle.sp_cut.proofs.cut.Cutter.find_end.Goals as goal

-- the bytes that were not gone through yet, among those that are left
fresh_is : (start scanned : ℕ) (items slice fresh : List ℕ) → fresh ≡ drop (start + scanned) slice → slice ≡ items → fresh ≡ drop scanned (drop start items)
fresh_is start scanned items slice fresh back value = back ∙ ap (drop (start + scanned)) value ∙ sym (drop-drop scanned start items)

-- where the next row ends among the bytes left
ends : (c : goal.After-self-in-End-1) → EndsAt false (drop c.self.inside.start c.self.inside.bytes.items) (c.self.inside.scanned + c.in-End.size)
ends c =
    let a = c.self.inside in
    let fresh = fresh_is a.start a.scanned a.bytes.items c.as_slice.result.now c.split_at.result.1.now c.split_at.ensures.back c.as_slice.ensures.value in
    ends_behind (drop a.start a.bytes.items) a.scanned c.in-End.size a.quoted c.self.invariant.scanned
    (subst (λ (bytes : List ℕ). EndsAt a.quoted bytes c.in-End.size) fresh c.in-End.ensures)

-- no row ends among them
rest : (c : goal.After-self-in-Rest-2-1) → scan false (drop c.self.inside.start c.self.inside.bytes.items) ≡ Some c.in-Rest.quoted
rest c =
    let a = c.self.inside in
    let fresh = fresh_is a.start a.scanned a.bytes.items c.as_slice.result.now c.split_at.result.1.now c.split_at.ensures.back c.as_slice.ensures.value in
    rest_behind (drop a.start a.bytes.items) a.scanned a.quoted c.in-Rest.quoted c.self.invariant.scanned (subst (λ (bytes : List ℕ). scan a.quoted bytes ≡ Some c.in-Rest.quoted) fresh c.in-Rest.ensures)

pub invariant_of-self : goal.invariant_of-self
invariant_of-self c = record {
  within = c.self.invariant.within;
  scanned = scanned_to_end (drop c.self.inside.start c.self.inside.bytes.items) (c.self.inside.scanned + c.in-End.size) (ends c);
}

pub invariant_of-self-in-Rest : goal.invariant_of-self-in-Rest
invariant_of-self-in-Rest c = record {
  within = c.self.invariant.within;
  scanned =
      let a = c.self.inside in
      let all : c.len.result - a.start ≡ length (drop a.start a.bytes.items) = omega (arith, length-drop a.start a.bytes.items, c.len.ensures, c.as_slice.ensures.len, ap length c.as_slice.ensures.value) in
      scanned_all (drop a.start a.bytes.items) (c.len.result - a.start) c.in-Rest.quoted all (rest c);
}

pub returns-in-End-clause-found : goal.returns-in-End-clause-found
returns-in-End-clause-found c = subst (λ (left : Left). EndsAt false left.bytes (c.self.inside.scanned + c.in-End.size)) c.self.view_is (ends c)

pub returns-in-Rest-clause-found : goal.returns-in-Rest-clause-found
returns-in-Rest-clause-found c = subst (λ (left : Left). scan false left.bytes ≡ Some c.in-Rest.quoted) c.self.view_is (rest c)

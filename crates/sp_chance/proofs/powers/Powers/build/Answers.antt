use Rattle.std.proofs.Common.{◌≡◌, ℕ, ◌++◌, ◌≤◌, List, length, take, drop, sym, ap, ◌∙◌, subst, arith, rules}
use Rattle.sp_chance.specs.Matrices.{first}
use Rattle.sp_chance.specs.Counted.{HasColumns}
use Rattle.sp_chance.proofs.Columns.{written-over}
use Rattle.sp_chance.proofs.powers.Powers.build.Goals as goal

-- it is as long as before
as_long : (len : ℕ) (new old : List ℕ) (n : ℕ) → length new ≡ length old → len ≡ length old → length old ≡ n → length (take len (new ++ drop (length new) old)) ≡ n
as_long len new old n size is long = ap length (written-over len new old size is) ∙ size ∙ long

pub invariant_of-self : goal.invariant_of-self
invariant_of-self c =
    let rows = c.max-self-inside.result in
    let most : rows ≤ 33 = omega (arith, c.max-self-inside.ensures, c.requires.left, c.self.invariant.most) in
    let now : List ℕ = c.work_out.new.columns in
    let old : List ℕ = c.self.inside.columns.items in
    let size : length now ≡ length old = search rules in
    let len : c.self.inside.columns.len ≡ length old = search rules in
    record {
      kept = subst (λ (l : List ℕ). HasColumns rows (first c.copy_from.new.self) l) (sym (written-over c.self.inside.columns.len now old size len)) c.work_out.ensures;
      most = most;
      size = as_long c.self.inside.columns.len now old 528 size len c.self.invariant.size;
      first_size = as_long c.self.inside.first.len c.work_out.new.one c.self.inside.first.items 1089 (search rules) (search rules) c.self.invariant.first_size;
      current_size = as_long c.self.inside.current.len c.work_out.new.current c.self.inside.current.items 1089 (search rules) (search rules) c.self.invariant.current_size;
      next_size = as_long c.self.inside.next.len c.work_out.new.next c.self.inside.next.items 1089 (search rules) (search rules) c.self.invariant.next_size;
    }

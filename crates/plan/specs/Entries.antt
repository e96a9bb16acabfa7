-- What is known of expressions before their code is made: of the expression that begins at a place of a table, the place after it, its
-- registers and its stored values (02, order 2), in one number; and a plan, which has such a number for each place.
use Rattle.std.specs.Prelude.{ℕ, zero, suc, ◌+◌, ◌*◌, ◌/◌, ◌%◌, ◌^◌, min, cond, List, get_or, set, ltb}
use Rattle.model.specs.Limits.{table_limit}
use Rattle.model.specs.Counts.{sides_need, order_of, sides_hold}
use Rattle.numbers.specs.Items.{value_at}
use Rattle.numbers.specs.Kinds.{expr_kind, by_expr}

-- the place after a number
abbrev pub next_of : List ℕ → ℕ → ℕ
next_of s at = (value_at s at).next

-- the most stored values that an entry can tell: an expression of 32 levels has fewer
abbrev pub stored_limit : ℕ
stored_limit = 255

-- an entry: the place after the expression, its registers and its stored values
unfoldable pub entry : (next registers stored : ℕ) → ℕ
entry n r t = n % 2 ^ 22 * 1024 + r % 4 * 256 + min stored_limit t

-- the parts of an entry
unfoldable pub next_in : ℕ → ℕ
next_in e = e / 1024

unfoldable pub registers_in : ℕ → ℕ
registers_in e = e / 256 % 4

unfoldable pub stored_in : ℕ → ℕ
stored_in e = e % 256

-- what a plan has at a place, and a plan with an entry more
unfoldable pub plan_at : (plan : List ℕ) → (at : ℕ) → ℕ
plan_at p at = cond (ltb at table_limit) (get_or p at 0) 0

unfoldable pub put_at : (at entry : ℕ) → (plan : List ℕ) → List ℕ
put_at at e p = cond (ltb at table_limit) (set p at e) p

-- the values that two sides hold together, by their entries
abbrev pub sides_held : (left right : ℕ) → ℕ
sides_held l r = sides_hold (order_of (registers_in l) (registers_in r)) (stored_in l) (stored_in r)

-- an operator by the entries of its sides
unfoldable pub sides_entry : (left right : ℕ) → ℕ
sides_entry l r = entry (next_in r) (sides_need (registers_in l) (registers_in r)) (sides_held l r)

-- what is measured of an expression: its entry, and the plan with the entries of all in it
pub record Entered : Type 0 where
  pub own : ℕ
  pub plan : List ℕ

abbrev pub entered : ℕ → List ℕ → Entered
entered x p = record { own = x; plan = p }

-- operator, left, right, by what measures an expression inside
unfoldable pub sides_entered : (ℕ → List ℕ → Entered) → List ℕ → (at : ℕ) → List ℕ → Entered
sides_entered inner s at p =
    let l = inner (next_of s at) p in
    let r = inner (next_in l.own) l.plan in
    entered (sides_entry l.own r.own) r.plan

-- an expression, which has `depth` levels left: its own entry is put at its first place
unfoldable pub expr_entered : (depth : ℕ) → List ℕ → (at : ℕ) → List ℕ → Entered
expr_entered zero s at p = entered (entry at 1 0) p
expr_entered (suc d) s at p =
    let k = value_at s at in
    let leaf = entered (entry (next_of s k.next) 1 0) p in
    let m = by_expr (expr_kind k.value) leaf leaf (expr_entered d s k.next p)
    (sides_entered (λ i q. expr_entered d s i q) s k.next p) in
    entered m.own (put_at at m.own m.plan)

-- what measures the expressions inside, which have `depth` left
abbrev pub inner_entered : (depth : ℕ) → List ℕ → (at : ℕ) → List ℕ → Entered
inner_entered d s i q = expr_entered d s i q

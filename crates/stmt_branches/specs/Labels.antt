-- Labels. A scope has for each name one more than the number of its label, or 0; 512 more once the label is placed. p is the
-- scope's list.
use Rattle.std.specs.Prelude.{ℕ, ◌+◌, ◌-◌, ◌%◌, ◌^◌, leb, List, ◌==◌, nat_le, nat_lt}
use Rattle.list_pushes.specs.declared.push.State.{State}
use Rattle.list_values.specs.Base.{Listed, listed}
use Rattle.prelude.specs.Base.{when◌then◌else◌}
use Rattle.expr_scope.specs.Smalls.{small, put_small}
use Rattle.stmt_walk.specs.Outcomes.{Walk}
use Rattle.stmt_branches.specs.Outcomes.{Label}

-- where the number of a name's label stands among the small numbers of a scope
unfoldable pub label_place : ℕ → ℕ
label_place name = 1024 + name % 1024

-- the label whose number is one less, else the next one, up to 256
unfoldable pub label_or : ℕ → List ℕ → ℕ → ℕ → Listed Label
label_or k p name n =
    when k == 0
    then (when leb 256 n then listed (Label.No 14) p else listed (Label.Is n) (put_small p (label_place name) (n + 1)))
    else listed (Label.Is (k - 1)) p

unfoldable pub get_or_insert_label : List ℕ → ℕ → ℕ → Listed Label
get_or_insert_label p name n = label_or (small p (label_place name) % 512) p name n

unfoldable pub on_label : {A : Type 0} → Listed Label → (ℕ → List ℕ → A) → (ℕ → List ℕ → A) → A
on_label (listed (Label.Is id) p) f g = f id p
on_label (listed (Label.No n) p) f g = g n p

-- a label is placed once
unfoldable pub place_label : List ℕ → ℕ → ℕ → Listed Label
place_label p id name =
    when nat_le 512 (small p (label_place name)) then listed (Label.No 27) p
    else listed (Label.Is id) (put_small p (label_place name) (small p (label_place name) + 512))

unfoldable pub resolve_label : List ℕ → ℕ → ℕ → Listed Label
resolve_label p name n =
    on_label (get_or_insert_label p name n)
    (λ id q. place_label q id name)
    (λ k q. listed (Label.No k) q)

-- how many labels there are after one
unfoldable pub labels_after : ℕ → ℕ → ℕ
labels_after id labels = when nat_lt id labels then labels else (id + 1) % 2 ^ 64

abbrev pub labelled : ℕ → ℕ → State → Walk → Walk
labelled id more st w = record {
  st = st;
  labels = labels_after id w.labels;
  placed = (w.placed + more) % 2 ^ 64;
  statements = w.statements;
  export = w.export;
}

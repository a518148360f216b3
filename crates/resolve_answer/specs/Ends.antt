-- The end of a walk. In all of these s is the stream, t the section's table, a the actions, m the temporaries.
use Rattle.std.specs.Prelude.{ℕ, ◌-◌, ◌/◌, true, false, List, eqb, ltb}
use Rattle.access.specs.Le.{le16}
use Rattle.list_values.specs.declared.sizes.Sizing.{Sizing}
use Rattle.list_end.specs.Outcomes.{Fixed, Finished}
use Rattle.list_values.specs.declared.value.Value.{Value}
use Rattle.list_values.specs.Base.{then_l}
use Rattle.prelude.specs.Base.{when◌then◌else◌}
use Rattle.list_values.specs.Values.{place}
use Rattle.list_values.specs.Sizes.{Sized, then_s}
use Rattle.list_end.specs.Passes.{size_pass}
use Rattle.list_end.specs.End.{fix_size, finish_actions}
use Rattle.stmt_walk.specs.Outcomes.{Walk}
use Rattle.stmt_walk.specs.Outcomes.{Export}
use Rattle.resolve_answer.specs.Answers.{Resolved, refused, accepted}

-- size errors refuse the section
unfoldable pub judged : List ℕ → List ℕ → ℕ → ℕ → Walk → Export → Sizing → Resolved
judged a m subtables n w x z = when eqb z.errors 0 then accepted a m subtables n w x else refused a m 51 z.first z.errors

-- with another value
abbrev pub export_with : Export → Value → Export
export_with x v = record { kind = x.kind; v = v; size = x.size }

-- with the size fixed
abbrev pub export_fixed : Export → Fixed → Export
export_fixed x f = export_with x f.v

unfoldable pub judged_fixed : List ℕ → List ℕ → ℕ → ℕ → Walk → Fixed → Resolved
judged_fixed a m subtables n w f = judged a m subtables n w (export_fixed w.export f) f.z

unfoldable pub finish_export : List ℕ → List ℕ → List ℕ → List ℕ → ℕ → ℕ → ℕ → Walk → Sizing → Resolved
finish_export s t a m subtables n ptr w z =
    when eqb w.export.kind 0 then judged a m subtables n w w.export z
    else judged_fixed a m subtables n w (fix_size s t m w.export.v ptr z)

-- on unless an action is refused, at the statement begun last
unfoldable pub finish_done : List ℕ → List ℕ → List ℕ → List ℕ → ℕ → ℕ → ℕ → Walk → Finished → Resolved
finish_done s t a m subtables n ptr w f =
    when eqb f.refusal 0 then finish_export s t a m subtables n ptr w f.z
    else refused a m f.refusal f.z.begun 0

unfoldable pub finish_sized : List ℕ → List ℕ → List ℕ → List ℕ → ℕ → ℕ → ℕ → Walk → Sizing → Resolved
finish_sized s t a m subtables n ptr w z =
    then_l (finish_actions s t a m (place 0 subtables) n ptr z) λ f b. finish_done s t b m subtables n ptr w f

unfoldable pub actions_between : ℕ → ℕ → ℕ
actions_between base end = when ltb end base then 0 else (end - base) / 24

unfoldable pub both_passes : List ℕ → List ℕ → List ℕ → List ℕ → ℕ → ℕ → ℕ → Sizing → Sized
both_passes s t a m base n ptr z = then_s (size_pass s t false a m base n ptr z) λ y b u. size_pass s t true b u base n ptr y

-- n actions behind the room for the Builds
unfoldable pub finish_all : List ℕ → List ℕ → List ℕ → List ℕ → ℕ → ℕ → ℕ → Walk → Resolved
finish_all s t a m subtables n ptr w =
    then_s (both_passes s t a m (place 0 subtables) n ptr w.st.sizing) λ z b u. finish_sized s t b u subtables n ptr w z

unfoldable pub finish : List ℕ → List ℕ → List ℕ → List ℕ → ℕ → Walk → Resolved
finish s t a m ptr w = finish_all s t a m (le16 s 20) (actions_between (place 0 (le16 s 20)) w.st.end) ptr w

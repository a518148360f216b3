-- A pass over the n actions from a position on. In all of these s is the stream, t the section's table, a the actions, m the
-- temporaries, z the record of errors, ptr the pointer size.
use Rattle.std.specs.Prelude.{ℕ, Bool, true, false, List}
use Rattle.list_values.specs.declared.sizes.Sizing.{Sizing}
use Rattle.access.specs.Loops.{run, run_down}
use Rattle.list_values.specs.Sizes.{Sized, sized}
use Rattle.list_pushes.specs.Passes.{update_action}

-- backward from the last action, or forward from the first with fallback
unfoldable pub size_pass : List ℕ → List ℕ → Bool → List ℕ → List ℕ → ℕ → ℕ → ℕ → Sizing → Sized
size_pass s t false a m base n ptr z = run_down n (update_action s t false base ptr) (sized z a m)
size_pass s t true a m base n ptr z = run n 0 (update_action s t true base ptr) (sized z a m)

-- Temporaries and pushes. In all of these s is the stream, t the section's table, a the actions, m the temporaries, z the
-- record of errors, ptr the pointer size, e the environment, st the state.
use Rattle.std.specs.Prelude.{ℕ, ◌+◌, ◌*◌, ◌%◌, Bool, false, List, length, set, ltb, leb}
use Rattle.list_values.specs.declared.value.Value.{Value}
use Rattle.list_values.specs.declared.sizes.Sizing.{Sizing}
use Rattle.list_pushes.specs.declared.push.State.{State}
use Rattle.list_pushes.specs.declared.push.Env.{Env}
use Rattle.list_pushes.specs.Outcomes.{Read}
use Rattle.list_pushes.specs.Outcomes.{Pushed}
use Rattle.list_values.specs.Base.{Listed, listed}
use Rattle.prelude.specs.Base.{when◌then◌else◌}
use Rattle.list_values.specs.Values.{local, value_at, put_value, zero_words}
use Rattle.list_values.specs.Sizes.{then_s}
use Rattle.list_pushes.specs.Rules.{update_operand_sizes}

-- an answer, the actions and the temporaries
pub data ReadOut : Type 0 where
  read : Read → List ℕ → List ℕ → ReadOut

pub data PushedOut : Type 0 where
  pushed : Pushed → List ℕ → List ℕ → PushedOut

pub data StateOut : Type 0 where
  state : State → List ℕ → List ℕ → StateOut

-- on with a value, or with the refusal
unfoldable pub on_read : {A : Type 0} → ReadOut → (Value → State → List ℕ → List ℕ → A) → (ℕ → List ℕ → List ℕ → A) → A
on_read (read (Read.Value v st) a m) f g = f v st a m
on_read (read (Read.No n) a m) f g = g n a m

unfoldable pub on_pushed : {A : Type 0} → PushedOut → (State → List ℕ → List ℕ → A) → (ℕ → List ℕ → List ℕ → A) → A
on_pushed (pushed (Pushed.Done st) a m) f g = f st a m
on_pushed (pushed (Pushed.No n) a m) f g = g n a m

-- the same where one list is lent
unfoldable pub on_tmp : {A : Type 0} → Listed Read → (Value → State → List ℕ → A) → (ℕ → List ℕ → A) → A
on_tmp (listed (Read.Value v st) l) f g = f v st l
on_tmp (listed (Read.No n) l) f g = g n l

unfoldable pub on_push : {A : Type 0} → Listed Pushed → (State → List ℕ → A) → (ℕ → List ℕ → A) → A
on_push (listed (Pushed.Done st) l) f g = f st l
on_push (listed (Pushed.No n) l) f g = g n l

unfoldable pub on_state : {A : Type 0} → StateOut → (State → List ℕ → List ℕ → A) → A
on_state (state st a m) f = f st a m

abbrev pub with_end : ℕ → State → State
with_end n st = record { end = n; temporaries = st.temporaries; sizing = st.sizing }

abbrev pub with_temporaries : ℕ → State → State
with_temporaries n st = record { end = st.end; temporaries = n; sizing = st.sizing }

abbrev pub with_sizing : Sizing → State → State
with_sizing z st = record { end = st.end; temporaries = st.temporaries; sizing = z }

-- a temporary's word: its name and its size
unfoldable pub tmp_word : ℕ → ℕ → ℕ
tmp_word name size = name % 65536 + size % 65536 * 65536

-- a temporary: the lent words or 512 at most
unfoldable pub add_tmp : List ℕ → ℕ → ℕ → State → Listed Read
add_tmp m name size st =
    when ltb st.temporaries (length m)
    then (when ltb st.temporaries 512
    then listed (Read.Value (local 6 st.temporaries) (with_temporaries (st.temporaries + 1) st)) (set m st.temporaries (tmp_word name size))
    else listed (Read.No 13) m)
    else listed (Read.No 13) m

-- the output given, else a fresh temporary of that size
unfoldable pub output_or : List ℕ → Bool → Value → ℕ → State → Listed Read
output_or m given to size st = when given then listed (Read.Value to st) m else add_tmp m 65535 size st

unfoldable pub write_operands : List ℕ → ℕ → Value → Value → Value → List ℕ
write_operands a at out x y = put_value (put_value (put_value a at 4 out) at 6 x) at 8 y

unfoldable pub write_head : List ℕ → ℕ → ℕ → ℕ → ℕ → ℕ → List ℕ
write_head a at kind op number count = set (set (set (set a (at + 0) kind) (at + 1) op) (at + 2) number) (at + 3) count

-- all 24 words of an action with at most two inputs
unfoldable pub write : List ℕ → ℕ → ℕ → ℕ → ℕ → ℕ → Value → Value → Value → List ℕ
write a at kind op number count out x y = zero_words (write_operands (write_head a at kind op number count) at out x y) at 10

-- an action of any kind with at most two inputs, pushed as it is
unfoldable pub push : List ℕ → ℕ → ℕ → ℕ → ℕ → Value → Value → Value → State → Listed Pushed
push a kind op number count out x y st =
    when leb (st.end + 24) (length a)
    then listed (Pushed.Done (with_end (st.end + 24) st)) (write a st.end kind op number count out x y)
    else listed (Pushed.No 12) a

-- the rule of the action at a position
unfoldable pub update_last : List ℕ → List ℕ → List ℕ → List ℕ → ℕ → ℕ → State → StateOut
update_last s t a m at ptr st = then_s (update_operand_sizes s t false a m at ptr st.sizing) λ z b w. state (with_sizing z st) b w

unfoldable pub push_op : List ℕ → List ℕ → List ℕ → List ℕ → Env → ℕ → ℕ → ℕ → Value → Value → Value → State → PushedOut
push_op s t a m e op number count out x y st =
    on_push (push a 0 op number count out x y st)
    (λ st1 b. on_state (update_last s t b m st.end e.pointer st1) λ st2 c w. pushed (Pushed.Done st2) c w)
    (λ n b. pushed (Pushed.No n) b m)

-- an operation with an output, and the output as its rule left it
unfoldable pub op_to : List ℕ → List ℕ → List ℕ → List ℕ → Env → ℕ → ℕ → ℕ → Value → Value → Value → State → ReadOut
op_to s t a m e op number count to x y st =
    on_pushed (push_op s t a m e op number count to x y st)
    (λ st1 b w. read (Read.Value (value_at b st.end 4) st1) b w)
    (λ n b w. read (Read.No n) b w)

-- the same, with a fresh temporary where no output is given
unfoldable pub op : List ℕ → List ℕ → List ℕ → List ℕ → Env → ℕ → ℕ → ℕ → Bool → Value → Value → Value → State → ReadOut
op s t a m e code number count given to x y st =
    on_tmp (output_or m given to 65535 st)
    (λ v st1 w. op_to s t a w e code number count v x y st1)
    (λ n w. read (Read.No n) a w)

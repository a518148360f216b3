-- A stream and a file resolved. In all of these s is the stream, t the section's table, a the actions, m the temporaries.
use Rattle.std.specs.Prelude.{ℕ, ◌+◌, ◌*◌, ◌/◌, true, List, length, get_or, replicate, eqb, ltb}
use Rattle.definition.specs.SectionFile.{stream_of}
use Rattle.access.specs.Le.{le16}
use Rattle.file_blocks.specs.Blocks.{refusal_of, joined}
use Rattle.file_section.specs.Stream.{Answer, read_stream}
use Rattle.list_pushes.specs.declared.push.Env.{Env}
use Rattle.prelude.specs.Base.{when◌then◌else◌}
use Rattle.list_values.specs.Values.{absent, place}
use Rattle.list_values.specs.Sizes.{entry}
use Rattle.stmt_walk.specs.Outcomes.{Walk}
use Rattle.stmt_walk.specs.Outcomes.{Step}
use Rattle.stmt_walk.specs.Walks.{Stepped, stepped, without_p}
use Rattle.stmt_bodies.specs.Statements.{resolve_body}
use Rattle.resolve_answer.specs.Answers.{Resolved, refused}
use Rattle.resolve_answer.specs.Ends.{finish}

-- of the default space, 8 where there is none
unfoldable pub pointer_size : List ℕ → List ℕ → ℕ
pointer_size s t = when eqb (le16 s 24) 65535 then 8 else le16 s (entry t 0 (le16 s 24 * 5 + 3))

-- behind room for the Builds of all subtables
abbrev pub at_start : ℕ → Walk
at_start subtables = record {
  st = record { end = place 0 subtables; temporaries = 0; sizing = record { begun = 65535; errors = 0; first = 65535 } };
  labels = 0;
  placed = 0;
  statements = 0;
  export = record { kind = 0; v = absent; size = 0 };
}

abbrev pub start_env : ℕ → Env
start_env ptr = record { pointer = ptr; own = true; count = 0 }

-- the section's own statements, which have no parameters, with macro calls 16 deep at most
unfoldable pub walk_section : List ℕ → List ℕ → List ℕ → List ℕ → ℕ → ℕ → Stepped
walk_section s t a m subtables ptr =
    without_p (resolve_body 16 s t (replicate 406 0) a m (start_env ptr) (get_or t 3337 0) (le16 s 22) (get_or t 3338 0) (at_start subtables))

-- the end, or the walk's refusal
unfoldable pub resolve_walked : List ℕ → List ℕ → ℕ → Stepped → Resolved
resolve_walked s t ptr (stepped (Step.Next next w) a m) = finish s t a m ptr w
resolve_walked s t ptr (stepped (Step.Stop refusal ordinal) a m) = refused a m refusal ordinal 0

unfoldable pub resolve_section : List ℕ → List ℕ → List ℕ → List ℕ → Resolved
resolve_section s t a m =
    when ltb (length a / 24) (le16 s 20) then refused a m 12 65535 0
    else resolve_walked s t (pointer_size s t) (walk_section s t a m (le16 s 20) (pointer_size s t))

unfoldable pub resolve_read : List ℕ → List ℕ → List ℕ → Answer → Resolved
resolve_read s a m r = when eqb r.refusal 0 then resolve_section s r.table a m else refused a m r.refusal 65535 0

unfoldable pub resolve_stream : List ℕ → List ℕ → List ℕ → Resolved
resolve_stream s a m = resolve_read s a m (read_stream s (replicate 3344 0))

unfoldable pub resolve_file : List ℕ → List ℕ → List ℕ → Resolved
resolve_file file a m =
    when eqb (refusal_of (stream_of file)) 0 then resolve_stream (joined (length file / 512) file) a m
    else refused a m (refusal_of (stream_of file)) 65535 0

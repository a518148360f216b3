-- REFUSALS: each by name, and document 01's number of each.
use Rattle.std.specs.Prelude.{ℕ}

pub data Refusal : Type 0 where
  -- the file and its stream
  bad_length block_check malformed outside_limit names_nothing spelled_twice : Refusal
  -- limits that the walk meets
  too_many_statements macro_too_deep list_full too_many_temporaries too_many_labels : Refusal
  -- statements, in `resolve`'s order
  after_export redeclared undefined wrong_kind absent_table delay_slot_argument macro_arguments label_twice : Refusal
  store_to_no_address jump_to_non_local address_of_non_local address_of_offset constant_pool argument_count : Refusal
  macro_in_expression subpiece_argument slice_past_end not_assignable const_space no_default_space other_space : Refusal
  shift_too_far offset_too_far : Refusal
  -- the end
  subpiece_size errors_recorded : Refusal

unfoldable pub refusal_number : Refusal → ℕ
refusal_number Refusal.bad_length = 1
refusal_number Refusal.block_check = 2
refusal_number Refusal.malformed = 3
refusal_number Refusal.outside_limit = 4
refusal_number Refusal.names_nothing = 5
refusal_number Refusal.spelled_twice = 6
refusal_number Refusal.too_many_statements = 10
refusal_number Refusal.macro_too_deep = 11
refusal_number Refusal.list_full = 12
refusal_number Refusal.too_many_temporaries = 13
refusal_number Refusal.too_many_labels = 14
refusal_number Refusal.after_export = 20
refusal_number Refusal.redeclared = 21
refusal_number Refusal.undefined = 22
refusal_number Refusal.wrong_kind = 23
refusal_number Refusal.absent_table = 24
refusal_number Refusal.delay_slot_argument = 25
refusal_number Refusal.macro_arguments = 26
refusal_number Refusal.label_twice = 27
refusal_number Refusal.store_to_no_address = 28
refusal_number Refusal.jump_to_non_local = 29
refusal_number Refusal.address_of_non_local = 30
refusal_number Refusal.address_of_offset = 31
refusal_number Refusal.constant_pool = 32
refusal_number Refusal.argument_count = 33
refusal_number Refusal.macro_in_expression = 34
refusal_number Refusal.subpiece_argument = 35
refusal_number Refusal.slice_past_end = 36
refusal_number Refusal.not_assignable = 37
refusal_number Refusal.const_space = 38
refusal_number Refusal.no_default_space = 39
refusal_number Refusal.other_space = 40
refusal_number Refusal.shift_too_far = 41
refusal_number Refusal.offset_too_far = 42
refusal_number Refusal.subpiece_size = 50
refusal_number Refusal.errors_recorded = 51

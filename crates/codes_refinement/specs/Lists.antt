-- The definition's things whose numbers the code has as constants, each list in the constants' order.
use Rattle.std.specs.Prelude.{List, [], ◌∷◌}
use Rattle.definition.specs.Operations.{Operation}
use Rattle.definition.specs.Refusals.{Refusal}
use Rattle.definition.specs.Value.{Kind, ActionKind, ExportKind}

unfoldable pub refusals : List Refusal
refusals =
    Refusal.bad_length ∷ Refusal.block_check ∷ Refusal.malformed ∷ Refusal.outside_limit ∷ Refusal.names_nothing
    ∷ Refusal.spelled_twice ∷ Refusal.too_many_statements ∷ Refusal.macro_too_deep ∷ Refusal.list_full
    ∷ Refusal.too_many_temporaries ∷ Refusal.too_many_labels ∷ Refusal.after_export ∷ Refusal.redeclared
    ∷ Refusal.undefined ∷ Refusal.wrong_kind ∷ Refusal.absent_table ∷ Refusal.delay_slot_argument
    ∷ Refusal.macro_arguments ∷ Refusal.label_twice ∷ Refusal.store_to_no_address ∷ Refusal.jump_to_non_local
    ∷ Refusal.address_of_non_local ∷ Refusal.address_of_offset ∷ Refusal.constant_pool ∷ Refusal.argument_count
    ∷ Refusal.macro_in_expression ∷ Refusal.subpiece_argument ∷ Refusal.slice_past_end ∷ Refusal.not_assignable
    ∷ Refusal.const_space ∷ Refusal.no_default_space ∷ Refusal.other_space ∷ Refusal.shift_too_far
    ∷ Refusal.offset_too_far ∷ Refusal.subpiece_size ∷ Refusal.errors_recorded ∷ []

unfoldable pub value_kinds : List Kind
value_kinds =
    Kind.InstStart ∷ Kind.InstNext ∷ Kind.Register ∷ Kind.Field ∷ Kind.Subtable ∷ Kind.SubtableRef
    ∷ Kind.PcodeTmp ∷ Kind.Constant ∷ []

unfoldable pub action_kinds : List ActionKind
action_kinds =
    ActionKind.Op Operation.IntMul ∷ ActionKind.AddressOf ∷ ActionKind.LoadRegister ∷ ActionKind.StoreRegister
    ∷ ActionKind.DelaySlot ∷ ActionKind.Build ∷ []

unfoldable pub export_kinds : List ExportKind
export_kinds =
    ExportKind.PlainValue ∷ ExportKind.RamRef ∷ ExportKind.RegisterRef ∷ []

-- Openers: each unfolds all that its module of the definition defines, and what that module rests on. Only proofs use them.
-- The script `openers` writes this file.
use Rattle.prelude.specs.Base as base
use Rattle.definition.specs.Refusals as refusals
use Rattle.definition.specs.Operations as operations
use Rattle.definition.specs.Value as value
use Rattle.definition.specs.SectionFile as sectionfile
use Rattle.definition.specs.Spellings as spellings
use Rattle.definition.specs.Sizes as sizes
use Rattle.definition.specs.Walk as walk
use Rattle.definition.specs.Scope as scope
use Rattle.definition.specs.Expressions as expressions
use Rattle.definition.specs.Statements as statements
use Rattle.definition.specs.End as end
use Rattle.definition.specs.ActionList as actionlist
use Rattle.definition.specs.Checker as checker
use Rattle.definition.specs.Right as right
use Rattle.definition.specs.Premise as premise
use Rattle.definition.specs.Passing as passing
use Rattle.definition.specs.Starred as starred

unfoldable pub base_opens : Unit {0}
unfolding base.◌or◌ base.or_else base.and_then base.is_some base.contains base.any base.all base.filter base.is_empty base.first base.position base.sum base.same_numbers
base_opens = tt

unfoldable pub refusals_opens : Unit {0}
unfolding refusals.refusal_number
refusals_opens = tt

unfoldable pub operations_opens : Unit {0}
unfolding base_opens operations.operation_number operations.operators operations.one_inputs operations.operations operations.among
operations_opens = tt

unfoldable pub value_opens : Unit {0}
unfolding operations_opens value.kind_number value.is_kind value.operands value.operation_of
value_opens = tt

unfoldable pub ast_opens : Unit {0}
unfolding operations_opens
ast_opens = tt

unfoldable pub section_file_opens : Unit {0}
unfolding base_opens refusals_opens operations_opens ast_opens sectionfile.on sectionfile.require sectionfile.checks_out sectionfile.bytes sectionfile.payloads sectionfile.whole_blocks sectionfile.stream_of sectionfile.u8 sectionfile.little_endian sectionfile.up_to sectionfile.naming sectionfile.or_absent sectionfile.choose sectionfile.code sectionfile.one_of sectionfile.list_of sectionfile.args_of sectionfile.pcode_ops sectionfile.call sectionfile.exprs sectionfile.expr_within sectionfile.jump_label sectionfile.branch_dst sectionfile.branch_hint sectionfile.statement sectionfile.entries sectionfile.space sectionfile.register sectionfile.bit_range sectionfile.table sectionfile.macro sectionfile.field sectionfile.subtable sectionfile.spelling sectionfile.spellings sectionfile.header sectionfile.nothing_left sectionfile.lists sectionfile.read_section sectionfile.read
section_file_opens = tt

unfoldable pub spellings_opens : Unit {0}
unfolding base_opens operations_opens spellings.bytes_of spellings.inbuilt spellings.inbuilts spellings.translate_inbuilt_func
spellings_opens = tt

unfoldable pub sizes_opens : Unit {0}
unfolding base_opens operations_opens value_opens ast_opens sizes.fixed_size sizes.rules sizes.rule_of sizes.steps_of sizes.but_first sizes.at sizes.put sizes.pointer_size sizes.export_size_of sizes.size_of_local sizes.size_of sizes.fallback_size sizes.set_tmp_size sizes.size_temporary sizes.settled sizes.set_size sizes.set_given sizes.set_operand sizes.set_operands sizes.share_size sizes.set_size_of_all sizes.set_unsized sizes.apply_step sizes.apply_steps sizes.update_operand_sizes sizes.backward_pass sizes.forward_pass sizes.apply_size_inference sizes.fix_to sizes.fix_size sizes.fix_inputs sizes.fix_output sizes.fix_operands
sizes_opens = tt

unfoldable pub walk_opens : Unit {0}
unfolding base_opens refusals_opens operations_opens value_opens ast_opens sizes_opens walk.on walk.require walk.expect walk.sliced walk.add_tmp walk.output_or walk.push walk.push_op walk.op walk.op_no_output
walk_opens = tt

unfoldable pub scope_opens : Unit {0}
unfolding base_opens refusals_opens value_opens ast_opens walk_opens scope.find scope.put_entry scope.symbols scope.globals scope.lookup scope.as_space scope.as_table scope.register_bits scope.global_meaning scope.inner_meaning scope.meaning_of scope.meaning scope.meant scope.resolve_ident scope.named_tmp scope.label_or scope.get_or_insert_label scope.resolve_label scope.locals scope.section_scope scope.bind_params scope.macro_scope
scope_opens = tt

unfoldable pub expressions_opens : Unit {0}
unfolding base_opens refusals_opens operations_opens value_opens ast_opens spellings_opens sizes_opens walk_opens scope_opens expressions.copy_to expressions.set_stated expressions.take_known expressions.take_stated expressions.byte_aligned expressions.shift_and_mask expressions.read_slice expressions.read_value expressions.read_all expressions.slice_read expressions.slice_bits expressions.as_local expressions.resolve_space expressions.in_const_space expressions.reference expressions.address_in expressions.resolve_address expressions.binary expressions.resolve_op expressions.pass_args expressions.call_user_op expressions.arg_count expressions.as_integer expressions.only_integer expressions.subpiece expressions.call_symbol expressions.call_inbuilt expressions.call_named expressions.resolve_call expressions.resolve_expr
expressions_opens = tt

unfoldable pub statements_opens : Unit {0}
unfolding base_opens refusals_opens operations_opens value_opens ast_opens sizes_opens walk_opens scope_opens expressions_opens statements.as_destination statements.as_name statements.target_name statements.dst_meaning statements.dst_named statements.resolve_dst statements.store statements.write_bits statements.read_to statements.copy_into statements.as_reference statements.store_register statements.store_in statements.store_at statements.exported statements.export_of statements.build statements.hint_number statements.jump_value statements.direct_address statements.resolve_branch statements.delay_slot statements.user_op_statement statements.macro_statement statements.symbol_statement statements.call_statement statements.resolve_statement statements.ordinal_after statements.begin_at statements.counted statements.begin statements.resolve_all statements.enter_macro statements.resolve_body
statements_opens = tt

unfoldable pub end_opens : Unit {0}
unfolding base_opens refusals_opens operations_opens value_opens ast_opens sizes_opens walk_opens scope_opens statements_opens end.no_errors end.sliced_inputs end.subpiece_copy end.finish_op end.finish_actions end.finish_export end.is_build end.builds end.implicit_builds end.finish end.resolve_statements end.resolve_section end.at_start
end_opens = tt

unfoldable pub action_list_opens : Unit {0}
unfolding base_opens refusals_opens operations_opens value_opens ast_opens section_file_opens walk_opens end_opens actionlist.or_none actionlist.value_words actionlist.input_words actionlist.action_kind_number actionlist.output_words actionlist.operation_word actionlist.filled actionlist.action_words actionlist.list_words actionlist.temporary_word actionlist.places_label actionlist.labels_placed actionlist.points actionlist.export_kind_number actionlist.of_export actionlist.refusal_result actionlist.accepted_result actionlist.room_for actionlist.when_read actionlist.refusal actionlist.accepted actionlist.answered actionlist.resolve_read actionlist.resolve
action_list_opens = tt

unfoldable pub checker_opens : Unit {0}
unfolding base_opens operations_opens value_opens sizes_opens end_opens action_list_opens checker.shapes checker.operation_numbered checker.op_numbered checker.action_kind_numbered checker.kinds checker.size_from checker.value_from checker.inputs_from checker.some_value checker.output_from checker.action_from checker.actions_from checker.same_count checker.counts_fit checker.plain_base checker.base_fits checker.shape_fits checker.option_fits checker.shape_of checker.number_fits checker.value_fits checker.layout_fits checker.is_sized checker.size_at checker.has_size checker.all_have_size checker.step_holds checker.operation_holds checker.sizes_hold checker.places checker.labels_once checker.all_built checker.list_holds checker.check
checker_opens = tt

unfoldable pub right_opens : Unit {0}
unfolding base_opens operations_opens value_opens sizes_opens action_list_opens checker_opens right.NumberWithin
right_opens = tt

unfoldable pub premise_opens : Unit {0}
unfolding base_opens value_opens ast_opens section_file_opens sizes_opens walk_opens end_opens action_list_opens premise.temporaries_among premise.under_rule premise.ruled premise.is_sized_in premise.union premise.sized_late premise.sized_late_walk premise.walked premise.late_in premise.premise_failures premise.premise
premise_opens = tt

unfoldable pub passing_opens : Unit {0}
unfolding base_opens ast_opens section_file_opens sizes_opens action_list_opens checker_opens passing.subtable_count passing.pointer_size_in passing.checked
passing_opens = tt

unfoldable pub starred_opens : Unit {0}
unfolding operations_opens ast_opens section_file_opens action_list_opens premise_opens passing_opens starred.worked starred.bytes_before starred.block starred.first_names starred.spaces_and_registers starred.padded starred.starred_sections
starred_opens = tt

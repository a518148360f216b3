-- The limits that every section read from a file keeps, as far as its action list depends on them.
use Prim.Native.Nat.{ℕ, zero, suc, ◌≤◌}
use mathlib.Core.Path.{◌≡◌, refl, ap, subst}
use mathlib.Core.Bool.{Bool, true, false}
use mathlib.Core.List.{List, [], ◌∷◌, map}
use mathlib.Core.Option.{none, some}
use native.Mathlib.Omega.{arith}
use lib.Dec.{eqb}
use lib.ListN.{length, get_elem?}
use Rattle.prelude.specs.Base.{when◌then◌else◌, or_else}
use Rattle.definition.specs.Refusals.{malformed, outside_limit}
use Rattle.definition.specs.Ast.{PcodeExpr, Args, no_args, arg, Statement, Space, Register, BitRange, Table, Macro, Field, Header, Section}
use Rattle.definition.specs.Expressions.{arg_count}
use Rattle.definition.specs.SectionFile.{Parsed, parsed, refused, Read, on, ◌>>=◌, pure, refuse, up_to, or_absent, size, size_or, choose, code, one_of, small_count, list_of, args_of, pcode_ops, call, exprs, expr_within, jump_label, branch_dst, statement, entries, space, register, bit_range, table, macro, field, header, lists, read_section, stream_of, read}
use Rattle.definition_guarantee.specs.Tests.{Each}
use Rattle.definition_guarantee.specs.Limits.{SizeWithin, ExprWithin, ArgsWithin, JumpWithin, DestinationWithin, StatementWithin, WithinLimits}
use Rattle.definition_guarantee.proofs.Readings.{Reading, Reads, bind, returns, refuses, passed, passes, reads-up_to, reads-bits}

reads-absent : (limit v : ℕ) (b : Bool) → Reads (λ z. or_else 0 z ≤ limit) (when b then pure none else (up_to limit v >>= λ w. pure (some w)))
unfolding or_else
reads-absent limit v true = returns none (omega arith)
reads-absent limit v false = bind (up_to limit v) _ (reads-up_to limit v) (λ w h. returns (some w) h)

reads_size : Reads (λ n. n ≤ 1024) size
reads_size = passed _ _ (λ v. reads-up_to 1024 v)

reads-size_or : Reads SizeWithin size_or
unfolding or_absent
reads-size_or = passed _ _ (λ v. reads-absent 1024 v (eqb v 65535))

reads-count : Reads (λ n. n ≤ 8) small_count
reads-count = passed _ _ (λ v. reads-up_to 8 v)

chosen : {A : Type 0} (P : A → Type 0) (xs : List (Read A)) (i : ℕ) → Each (Reads P) xs → Reads P (choose (get_elem? xs i))
unfolding choose
chosen P [] i h = refuses malformed
chosen P (x ∷ xs) zero h = h.0
chosen P (x ∷ xs) (suc i) h = chosen P xs i h.1

reads-code : {A : Type 0} (P : A → Type 0) (xs : List (Read A)) → Each (Reads P) xs → Reads P (code xs)
unfolding code
reads-code P xs h = passed _ _ (λ b. chosen P xs b h)

places : {A : Type 0} (P : A → Type 0) (xs : List A) → ((i : ℕ) (x : A) → get_elem? xs i ≡ some x → P x) → Each (Reads P) (map pure xs)
places P [] h = tt
places P (x ∷ xs) h = (returns x (h 0 x refl), places P xs (λ i y e. h (suc i) y e))

-- whatever has no fields is one of its alternatives
reads-one_of : {A : Type 0} (xs : List A) → Reads (λ x. (i : ℕ) × (get_elem? xs i ≡ some x)) (one_of xs)
unfolding one_of
reads-one_of xs = reads-code _ (map pure xs) (places _ xs (λ i x e. (i, e)))

reads-list : {A : Type 0} (P : A → Type 0) (m : Read A) (n : ℕ) → Reads P m → Reads (Each P) (list_of m n)
unfolding list_of
reads-list P m zero h = returns [] tt
reads-list P m (suc n) h = bind _ _ h (λ x p. bind _ _ (reads-list P m n h) (λ xs q. returns (x ∷ xs) (p, q)))

-- as many arguments as were counted
reads_args : (m : Read PcodeExpr) (n : ℕ) → Reads ExprWithin m → Reads (λ xs. (arg_count xs ≡ n) × ArgsWithin xs) (args_of m n)
unfolding args_of arg_count ArgsWithin
reads_args m zero h = returns no_args (refl, tt)
reads_args m (suc n) h = bind _ _ h (λ x p. bind _ _ (reads_args m n h) (λ xs q. returns (arg x xs) (ap suc q.0, (p, q.1))))

module _ (names : ℕ) where
  reads-call : {A : Type 0} (P : A → Type 0) (f : ℕ → Args → A) (m : Read PcodeExpr) → Reads ExprWithin m
      → ((n : ℕ) (xs : Args) → (arg_count xs ≤ 8) × ArgsWithin xs → P (f n xs)) → Reads P (call names f m)
  unfolding call
  reads-call P f m h k = passed _ _ (λ n. bind _ _ reads-count
      (λ c l. bind _ _ (reads_args m c h) (λ xs q. returns (f n xs) (k n xs (rw q.0 l, q.1)))))

  reads-exprs : (part : Read PcodeExpr) → Reads ExprWithin part → Each (Reads ExprWithin) (exprs names part)
  unfolding exprs ExprWithin
  reads-exprs part h = (
    passed _ _ (λ n. returns _ tt),
    (
      passed _ _ (λ v. returns _ tt),
      (
        bind _ _ reads-size_or (λ z p. passed _ _ (λ n. returns _ p)),
        (
          bind _ _ h (λ x p. bind _ _ reads_size (λ z q. returns _ (p, q))),
          (
            bind _ _ h (λ x p. passed _ _ (λ from. bind _ _ reads-bits (λ z q. returns _ (p, q)))),
            (
              bind _ _ h (λ a p. bind _ _ (reads-one_of pcode_ops) (λ o r. bind _ _ h (λ b q. returns _ (p, r, q)))),
              (
                passed _ _ (λ n. bind _ _ reads-size_or (λ z p. bind _ _ h (λ x q. returns _ (p, q)))),
                (
                  passed _ _ (λ c. passed _ _ (λ xs. returns _ tt)),
                  (reads-call ExprWithin PcodeExpr.Call part h (λ n xs p. p), tt),
                ),
              ),
            ),
          ),
        ),
      ),
    ),
  )

  reads-expr : (depth : ℕ) → Reads ExprWithin (expr_within names depth)
  unfolding expr_within exprs
  reads-expr zero = record {
    reads = λ s. (reads-code ExprWithin (map (λ (_ : Read PcodeExpr). refuse outside_limit) (exprs names (refuse outside_limit)))
        (refuses _, (refuses _, (refuses _, (refuses _, (refuses _, (refuses _, (refuses _, (refuses _, (refuses _, tt)))))))))).reads s;
  }
  reads-expr (suc depth) = record {
    reads = λ s. (reads-code ExprWithin (exprs names (expr_within names depth))
        (reads-exprs (expr_within names depth) (reads-expr depth))).reads s;
  }

  reads-jump : Reads JumpWithin (jump_label names)
  unfolding jump_label JumpWithin
  reads-jump = reads-code JumpWithin _ (passed _ _ (λ n. returns _ tt), (passed _ _ (λ v. bind _ _ reads_size (λ z p. returns _ p)), tt))

  reads_dst : Reads DestinationWithin (branch_dst names)
  unfolding branch_dst DestinationWithin
  reads_dst = reads-code DestinationWithin _ (
    bind _ _ reads-jump (λ l p. returns _ p),
    (bind _ _ reads-jump (λ l p. returns _ p), (passed _ _ (λ n. returns _ tt), tt)),
  )

  reads-statement : Reads StatementWithin (statement names)
  unfolding statement StatementWithin
  reads-statement =
      let e = reads-expr 32 in
      reads-code StatementWithin _ (
        returns _ tt,
        (
          bind _ _ e (λ x p. returns _ p),
          (
            passed _ _ (λ n. bind _ _ reads-size_or (λ z p. returns _ p)),
            (
              passed _ _ (λ n. bind _ _ reads-size_or (λ z p. bind _ _ e (λ x q. returns _ (p, q)))),
              (
                passed _ _ (λ n. returns _ tt),
                (
                  bind _ _ e (λ x p. bind _ _ e (λ y q. returns _ (p, q))),
                  (
                    passed _ _ (λ n. bind _ _ reads-size_or (λ z p. bind _ _ e (λ x q. bind _ _ e (λ y r. returns _ (p, q, r))))),
                    (
                      reads-call StatementWithin Statement.Call _ e (λ n xs p. p),
                      (
                        bind _ _ reads_dst (λ d p. passed _ _ (λ h. returns _ p)),
                        (
                          bind _ _ e (λ c p. bind _ _ reads_dst (λ d q. passed _ _ (λ h. returns _ (p, q)))),
                          (passed _ _ (λ n. returns _ tt), tt),
                        ),
                      ),
                    ),
                  ),
                ),
              ),
            ),
          ),
        ),
      )

  reads-entries : {A : Type 0} (P : A → Type 0) (entry : ℕ → Read A) (taken : List ℕ) (n : ℕ) → ((own : ℕ) → Reads P (entry own))
      → Reads (λ xs. Each P xs × (length xs ≡ n)) (entries names entry taken n)
  unfolding entries
  reads-entries P entry taken zero h = returns [] (tt, refl)
  reads-entries P entry taken (suc n) h =
      passed _ _ (λ own. passes _ _ (bind _ _ (h own)
      (λ x p. bind _ _ (reads-entries P entry (own ∷ taken) n h) (λ xs q. returns (x ∷ xs) ((p, q.0), ap suc q.1)))))

  reads-space : (own : ℕ) → Reads (λ (x : Space). x.address_size ≤ 1024) (space names own)
  unfolding space
  reads-space own = passed _ _ (λ k. bind _ _ reads_size (λ z p. returns _ p))

  reads-register : (own : ℕ) → Reads (λ (x : Register). x.size ≤ 1024) (register names own)
  unfolding register
  reads-register own = bind _ _ reads_size (λ z p. returns _ p)

  reads-bit_range : (count own : ℕ) → Reads (λ (x : BitRange). x.bit_count ≤ 8192) (bit_range names count own)
  unfolding bit_range
  reads-bit_range count own = passed _ _ (λ r. passed _ _ (λ from. bind _ _ reads-bits (λ z p. returns _ p)))

  reads-table : (own : ℕ) → Reads (λ (x : Table). SizeWithin x.export_size) (table names own)
  unfolding table
  reads-table own = bind _ _ reads-size_or (λ z p. returns _ p)

  reads-macro : (own : ℕ) → Reads (λ (x : Macro). Each StatementWithin x.body) (macro names own)
  unfolding macro
  reads-macro own = passed _ _ (λ c. passed _ _ (λ params. passed _ _
      (λ n. bind _ _ (reads-list StatementWithin _ n reads-statement) (λ body p. returns _ p))))

  reads-field : (own : ℕ) → Reads (λ (x : Field). SizeWithin x.size) (field names own)
  unfolding field
  reads-field own = bind _ _ reads-size_or (λ z p. returns _ p)

reads-header : Reads (λ (h : Header). h.user_ops ≤ 256) header
unfolding header
reads-header =
    passed _ _ λ rule_set. passed _ _ λ names. passed _ _ λ spaces. passed _ _ λ registers. passed _ _ λ bit_ranges. passed _ _ λ tables.
    bind _ _ (passed _ _ (λ v. reads-up_to 256 v)) λ user_ops p.
    passed _ _ λ macros. passed _ _ λ others. passed _ _ λ fields. passed _ _ λ subtables. passed _ _ λ statements.
    passed _ _ λ default_space. passed _ _ λ inst_start. passed _ _ λ inst_next. passed _ _ λ const. passed _ _ λ delay_slot. returns _ p

reads-lists : (h : Header) → h.user_ops ≤ 256 → Reads WithinLimits (lists h)
unfolding lists
reads-lists h u =
    let n = h.names in
    passed _ _ λ spelt.
    bind _ _ (reads-entries n _ _ _ _ (reads-space n)) λ spaces p₁.
    bind _ _ (reads-entries n _ _ _ _ (reads-register n)) λ registers p₂.
    bind _ _ (reads-entries n _ _ _ _ (reads-bit_range n h.registers)) λ bit_ranges p₃.
    bind _ _ (reads-entries n _ _ _ _ (reads-table n)) λ tables p₄.
    bind _ _ (reads-entries n (λ _. Unit {0}) pure _ h.user_ops (λ own. returns own tt)) λ user_ops p₅.
    bind _ _ (reads-entries n _ _ _ _ (reads-macro n)) λ macros p₆.
    passed _ _ λ others.
    bind _ _ (reads-entries n _ _ _ _ (reads-field n)) λ fields p₇.
    passed _ _ λ subtables.
    bind _ _ (reads-list StatementWithin _ _ (reads-statement n)) λ statements p₈.
    passes _ _ (returns _ (record {
      spaces = p₁.0;
      registers = p₂.0;
      bit_ranges = p₃.0;
      tables = p₄.0;
      user_ops = rw p₅.1 u;
      macros = p₆.0;
      fields = p₇.0;
      statements = p₈;
    }))

reads_section : Reads WithinLimits read_section
unfolding read_section
reads_section = bind header lists reads-header (λ h u. reads-lists h u)

pub read_within : (bytes rest : List ℕ) (sec : Section) → read bytes ≡ parsed sec rest → WithinLimits sec
unfolding read on
read_within bytes rest sec h = go (stream_of bytes) h
  where
    held : (x : Parsed Section) → Reading WithinLimits x → x ≡ parsed sec rest → WithinLimits sec
    held (parsed a s) w e = let d : a ≡ sec = cc in subst WithinLimits d w
    held (refused r) w e = cc

    go : (x : Parsed (List ℕ)) → on x (λ stream _. read_section stream) ≡ parsed sec rest → WithinLimits sec
    go (parsed stream s) e = held (read_section stream) (reads_section.reads stream) e
    go (refused r) e = cc

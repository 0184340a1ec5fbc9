-- What a reading that is exact says of tables and first faults.
use Rattle.std.proofs.Common.{◌≡◌, Result, Ok, Err, List, sym, ◌∙◌}
use Rattle.std.specs.Prelude.{IfOk}
use Rattle.task_syntax.specs.declared.columns.Columns.{Columns}
use Rattle.column_input.specs.declared.fault.ColumnError.{ColumnError}
use Rattle.column_input.specs.declared.fault.ColumnError.TheVariants as error
use Rattle.column_input.specs.Faults.{IsFirst, Tells, TellsFirst}
use Rattle.column_input.specs.Records.{Record}
use Rattle.column_input.specs.Reading.{Fault, Gives, columns_in, fault_at}
use Rattle.column_input.specs.Table.{Answers, Tabulates}
use Rattle.column_input.proofs.TableLaws.{columns-exactly, fault-exactly, gives-either, told-first, told-table}

pub gives-table : (records : List Record) (r : Result Columns ColumnError) → Gives r (columns_in records) → IfOk r (Tabulates records)
gives-table records (Ok columns) e = told-table records columns e
gives-table records (Err other) e = tt

pub table-given : (records : List Record) (columns : Columns) (r : Result Columns ColumnError) → Tabulates records columns → Gives r (columns_in records) → Answers columns r
table-given records columns (Ok other) t e =
    let both : ◌≡◌ {A = Result Columns Fault} (Ok columns) (Ok other) = sym (columns-exactly records columns _ (gives-either records) t) ∙ e in
    cc
table-given records columns (Err (error.Fault cause row column)) t e =
    let both : ◌≡◌ {A = Result Columns Fault} (Ok columns) (Err (fault_at cause row column)) = sym (columns-exactly records columns _ (gives-either records) t) ∙ e in
    cc
table-given records columns (Err error.Memory) t e = tt

pub gives-first : (records : List Record) (r : Result Columns ColumnError) → Gives r (columns_in records) → TellsFirst records r
gives-first records (Ok columns) e = tt
gives-first records (Err (error.Fault cause row column)) e = told-first records (fault_at cause row column) e
gives-first records (Err error.Memory) e = tt

pub first-given : (records : List Record) (fault : Fault) (r : Result Columns ColumnError) → IsFirst records fault → Gives r (columns_in records) → Tells fault r
first-given records fault (Ok columns) f e =
    let both : ◌≡◌ {A = Result Columns Fault} (Err fault) (Ok columns) = sym (fault-exactly records fault _ (gives-either records) f) ∙ e in
    cc
first-given records fault (Err (error.Fault cause row column)) f e =
    let both : ◌≡◌ {A = Result Columns Fault} (Err fault) (Err (fault_at cause row column)) = sym (fault-exactly records fault _ (gives-either records) f) ∙ e in
    cc
first-given records fault (Err error.Memory) f e = tt

pub mod ByNumber
pub mod CutsChecked
pub mod MembersChecked

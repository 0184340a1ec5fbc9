pub mod Blocks
pub mod Choice
pub mod Laws
pub mod Pool
pub mod Superblocks
pub mod Vacancies
pub mod VacancyInvariant

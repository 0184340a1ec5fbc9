pub mod FamilyText
pub mod ListTests
pub mod FormedTests
pub mod WellFormed
pub mod OneWay
pub mod ValidTests
pub mod Valid

pub mod Verdict
pub mod Conflicts
pub mod VerdictFacts

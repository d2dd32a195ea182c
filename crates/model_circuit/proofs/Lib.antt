mod Constraints
